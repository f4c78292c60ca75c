-- How names, snaps, digests and versions stand in both lists.
use Rattle.std.specs.Prelude.{ℕ, ◌-◌, ◌==◌, if◌then◌else◌, false, List, ◌∷◌, ◌++◌, length, replicate, codes, encode_utf8_all}
use Rattle.std.specs.Fmt.{decimal, digits}
use Rattle.serde_json.specs.Data.{Data, string, number, unsigned, Members, put}
use Rattle.pgs_name.specs.Bounds.{kept_key}
use Rattle.pgs_name.specs.declared.object_id.ObjectId.{ObjectId}
use Rattle.pgs_name.specs.declared.object_id.TheConstants.{HEAD}
use Rattle.pgs_request.specs.declared.version.Version.{Version}

-- Bytes of a name as a string: each byte is the character of its number. For the bytes that names are made of, 0x21 to 0x7E, that is the
-- same text.
abbrev pub text_data : List ℕ → Data
text_data bytes = string (encode_utf8_all bytes)

-- the key as it is written: empty where it is the name
abbrev pub locator_data : ObjectId → Data
locator_data id = text_data (kept_key id.family.key id.family.name)

-- a snap by its number, and that of a head by the word
abbrev pub snap_data : ℕ → Data
snap_data snap = if snap == HEAD then string (codes "head") else number (unsigned snap)

-- `0x`, and the digits of a number in base 16 in lower case, behind as many zeros as make eight
unfoldable pub digest_text : ℕ → List ℕ
digest_text digest = let hex = digits 16 false digest in codes "0x" ++ (replicate (8 - length hex) 48 ++ hex)

abbrev pub digest_data : ℕ → Data
digest_data digest = string (digest_text digest)

-- EPOCH'NUMBER
abbrev pub version_data : Version → Data
version_data version = string (decimal version.epoch ++ 39 ∷ decimal version.number)

-- ---- for private clauses: the members of a name, put into an object

unfoldable pub put_name : ObjectId → Members → Members
put_name id members =
    put (codes "snap") (snap_data id.snap)
    (put (codes "nspace") (text_data id.family.space)
    (put (codes "name") (text_data id.family.name)
    (put (codes "locator") (locator_data id) members)))
