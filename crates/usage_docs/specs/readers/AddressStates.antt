-- Reading an address and a reference letter by letter.
use Rattle.std.specs.Prelude.{ℕ, Bool, true, false, ◌==◌, ◌&&◌, if◌then◌else◌}
use Rattle.xml_names.specs.Characters.{is_space}
use Rattle.usage_docs.specs.declared.address_states.AddressState.{AddressState}
use Rattle.usage_docs.specs.declared.address_states.AddressState.TheVariants.{Start, H, Ht, Htt}
use Rattle.usage_docs.specs.declared.address_states.AddressState.TheVariants.{Http, Https, Colon}
use Rattle.usage_docs.specs.declared.address_states.AddressState.TheVariants.{Slash, Whole, GoesOn}
use Rattle.usage_docs.specs.declared.address_states.AddressState.TheVariants.{Other}
use Rattle.usage_docs.specs.declared.address_states.SegmentState.{SegmentState}
use Rattle.usage_docs.specs.declared.address_states.SegmentState.TheVariants.{Empty, Begun, Ended}
use Rattle.usage_docs.specs.declared.address_states.SegmentState.TheVariants.{Wrong}

-- white space, where it is trimmed
abbrev pub is_trimmed_space : Bool → ℕ → Bool
is_trimmed_space trims c = trims && is_space c

-- an address after one more letter, where white space before and after it is ignored
abbrev pub address_state_after : (ℕ → Bool) → AddressState → ℕ → AddressState
address_state_after is_trimmed_space Start c =
    if is_trimmed_space c then Start else (if c == 104 then H else Other)
address_state_after is_trimmed_space H c = if c == 116 then Ht else Other
address_state_after is_trimmed_space Ht c = if c == 116 then Htt else Other
address_state_after is_trimmed_space Htt c = if c == 112 then Http else Other
address_state_after is_trimmed_space Http c =
    if c == 58 then Colon else (if c == 115 then Https else Other)
address_state_after is_trimmed_space Https c = if c == 58 then Colon else Other
address_state_after is_trimmed_space Colon c = if c == 47 then Slash else Other
address_state_after is_trimmed_space Slash c = if c == 47 then Whole else Other
address_state_after is_trimmed_space Whole c = if is_trimmed_space c then Whole else GoesOn
address_state_after is_trimmed_space GoesOn c = GoesOn
address_state_after is_trimmed_space Other c = Other

abbrev pub is_whole_address : AddressState → Bool
is_whole_address Start = false
is_whole_address H = false
is_whole_address Ht = false
is_whole_address Htt = false
is_whole_address Http = false
is_whole_address Https = false
is_whole_address Colon = false
is_whole_address Slash = false
is_whole_address Whole = false
is_whole_address GoesOn = true
is_whole_address Other = false

-- the first segment of a reference after one more letter
abbrev pub segment_state_after : SegmentState → ℕ → SegmentState
segment_state_after Empty c = if c == 47 then Wrong else (if c == 58 then Wrong else Begun)
segment_state_after Begun c = if c == 47 then Ended else (if c == 58 then Wrong else Begun)
segment_state_after Ended c = Ended
segment_state_after Wrong c = Wrong

abbrev pub is_reference_segment : SegmentState → Bool
is_reference_segment Empty = false
is_reference_segment Begun = true
is_reference_segment Ended = true
is_reference_segment Wrong = false
