-- Data of a chunk that was appended to the data before.
use Rattle.std.proofs.Common.{◌≡◌, ℕ, ◌-◌, ◌≤◌, List, ◌++◌, length, take, refl, sym, ap, subst, ◌∙◌, arith}
use Rattle.std.proofs.lemmas.List.{length-take-le}
use Rattle.http_wire.specs.declared.chunk_decoder.ChunkState.TheVariants.{Data}
use Rattle.http_wire.specs.inner.ChunkDecoder.{Decoding, decoding, DecodesBytes}
use Rattle.http_wire.proofs.Steps.{reads_data, same_decoding}

pub data_added : (d : Decoding) (left count : ℕ) (raw : List ℕ) → d.stage ≡ Data left → count ≤ length raw → count ≤ left → DecodesBytes d (take count raw) (decoding (Data (left - count)) (d.body ++ take count raw))
data_added d left count raw due enough fits =
    let size : length (take count raw) ≡ count = length-take-le count raw enough in
    let old : decoding (Data left) d.body ≡ d = same_decoding (Data left) d.stage d.body d.body (sym due) refl in
    subst (λ (n : ℕ). DecodesBytes d (take count raw) (decoding (Data (left - n)) (d.body ++ take count raw))) size
    (subst (λ (x : Decoding). DecodesBytes x (take count raw) (decoding (Data (left - length (take count raw))) (d.body ++ take count raw))) old (reads_data left d.body (take count raw) (omega (arith, size, fits))))
