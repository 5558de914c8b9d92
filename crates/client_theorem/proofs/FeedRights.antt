-- A request for a feed reads, in the name of the document's user.
use Rattle.std.proofs.Common.{◌≡◌, ℕ, false, true, List, codes, encode_utf8_all, refl}
use Rattle.std.specs.Cmp.Lexicographic.{bytes_decides}
use Rattle.std.specs.Str.{chars}
use Rattle.doc_names.specs.declared.doc_id.Auid.{Auid}
use Rattle.doc_names.specs.declared.doc_id.Home.{Home}
use Rattle.doc_names.specs.declared.doc_id.Home.TheVariants.{Global, User}
use Rattle.request_checks.specs.Methods.{method_of}
use Rattle.request_checks.specs.Rights.{is_allowed, is_from_user}
use Rattle.request_checks.specs.declared.method.Method.TheVariants.{Get}
use Rattle.client_theorem.specs.FeedRequests.{user_fields}

pub reads : method_of (codes "GET") ≡ Get
unfolding method_of chars
reads = refl

user_named : (xui : List ℕ) → is_from_user xui (user_fields (User xui)) ≡ true
unfolding is_from_user
user_named xui = (bytes_decides (encode_utf8_all xui) (encode_utf8_all xui)).1 refl

pub allowed : (auid : Auid) (home : Home) → is_allowed false auid home (user_fields home) ≡ true
allowed auid Global = refl
allowed auid (User xui) = user_named xui
