-- The checksum of an entry: SipHash-1-3 with the standard library's keys, of the file's mark and
-- the bytes. This is the project's own choice. A checksum that is linear, as a CRC, wouldn't do:
-- whoever writes a body could choose it so that it has the same checksum with zeros at its end.
use Rattle.std.specs.Prelude.{ℕ, ◌%◌, ◌^◌, List}
use Rattle.std.specs.Hash.DefaultHasher as sip

unfoldable pub checksum : List ℕ → List ℕ → ℕ
checksum key bytes = sip.finish (sip.write (sip.write sip.initial key) bytes) % 2 ^ 64
