-- Object infos as bytes.
use Rattle.std.specs.Prelude.{ℕ, Bool, true, List, Option, Some, None, Result, is_some}
use Rattle.std.specs.Result.{result_ok}
use Rattle.pgs_name.specs.declared.object_id.ObjectId.{ObjectId}
use Rattle.pgs_request.specs.declared.version.Version.{Version}
use Rattle.pgs_codec.specs.Fields.{Field, u32, u64, fixed, followed, seen, where_so, read_whole}
use Rattle.pgs_codec.specs.Ids.{id}
use Rattle.pgs_info.specs.declared.flags.Flags.{Flags}
use Rattle.pgs_info.specs.declared.info.ObjectInfo.{ObjectInfo}
use Rattle.pgs_info.specs.Flags.{flags}

-- a version: its epoch and its number
abbrev pub version : Field Version
version = seen (λ p. record { epoch = p.0; number = p.1 }) (λ v. (v.epoch, v.number)) (λ v. true) (followed u32 (λ epoch. u64))

-- an info's version, prior version and size
abbrev pub Sizes : Type 0
Sizes = Version × (Version × ℕ)

abbrev pub sizes : Field Sizes
sizes = followed version (λ latest. followed version (λ prior. u64))

-- the flags, and the digests that they tell of
abbrev pub Digests : Type 0
Digests = Flags × (Option ℕ × Option ℕ)

abbrev pub digests : Field Digests
digests = followed flags (λ f. followed (where_so f.data_digest u32) (λ digest. where_so f.omap_digest u32))

-- the bytes 0x49 and 1, by which an info begins
abbrev pub marks : Field (Unit {0} × Unit {0})
marks = followed (fixed 0x49) (λ first. fixed 1)

abbrev pub Parts : Type 0
Parts = (Unit {0} × Unit {0}) × (ObjectId × (Sizes × Digests))

abbrev pub parts : Field Parts
parts = followed marks (λ begun. followed id (λ position. followed sizes (λ s. digests)))

abbrev pub info_of : Parts → ObjectInfo
info_of p = record {
  id = p.1.0;
  version = p.1.1.0.0;
  prior = p.1.1.0.1.0;
  size = p.1.1.0.1.1;
  data_digest = p.1.1.1.1.0;
  omap_digest = p.1.1.1.1.1;
  whiteout = p.1.1.1.0.whiteout;
}

-- the flags that an info has
abbrev pub flags_of : ObjectInfo → Flags
flags_of i = record { whiteout = i.whiteout; data_digest = is_some i.data_digest; omap_digest = is_some i.omap_digest }

abbrev pub parts_of : ObjectInfo → Parts
parts_of i = ((tt, tt), (i.id, ((i.version, (i.prior, i.size)), (flags_of i, (i.data_digest, i.omap_digest)))))

-- An info: the marks, its position, its version, its prior version, its size, its flags, and the digests that are recorded.
abbrev pub info : Field ObjectInfo
info = seen info_of parts_of (λ i. true) parts

-- an info has a spelling: its position is within the bounds of a name, and its numbers fit their fields
unfoldable pub info_fits : ObjectInfo → Bool
info_fits = info.fits

unfoldable pub info_spelling : ObjectInfo → List ℕ
info_spelling = info.spell

-- the info that a whole text spells, or the place at which the text is refused
unfoldable pub read_info : List ℕ → Result ObjectInfo ℕ
read_info = read_whole info

-- the info in an attribute, if it is there and reads
abbrev pub info_in : Option (List ℕ) → Option ObjectInfo
info_in None = None
info_in (Some text) = result_ok (read_info text)
