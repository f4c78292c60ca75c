-- What a write makes of the copies of its object: the clone that it makes first, what it does to the head, and what is recorded there.
use Rattle.std.specs.Prelude.{ℕ, ◌+◌, ◌==◌, max, Bool, true, false, not, ◌||◌, ◌&&◌, if◌then◌else◌, List, [], ◌∷◌, ◌++◌, length, Option, Some, None}
use Rattle.pgs_crc.specs.Digest.{crc}
use Rattle.pgs_name.specs.Families.{Family}
use Rattle.pgs_name.specs.declared.object_id.TheConstants.{HEAD}
use Rattle.pgs_copy.specs.Copies.{info_name, snapset_name}
use Rattle.pgs_copy.specs.declared.effect.Effect.{Effect}
use Rattle.pgs_copy.specs.declared.effect.Effect.TheVariants as effects
use Rattle.pgs_request.specs.Payloads.{bytes_of, size_of}
use Rattle.pgs_request.specs.declared.op.Op.{Op}
use Rattle.pgs_request.specs.declared.op.Op.TheVariants.{Full, Write, Truncate, SetAttr, RmAttr, SetOmap, RmOmap, SetHeader, Remove}
use Rattle.pgs_request.specs.declared.snap_context.SnapContext.{SnapContext}
use Rattle.pgs_request.specs.declared.version.Version.{Version}
use Rattle.pgs_info.specs.Info.{info_spelling}
use Rattle.pgs_info.specs.declared.info.ObjectInfo.{ObjectInfo}
use Rattle.pgs_snapset.specs.Cloning.{clone_made, snapset_after}
use Rattle.pgs_snapset.specs.Spelling.{snapset_spelling}
use Rattle.pgs_snapset.specs.declared.clone_facts.CloneFacts.{CloneFacts}
use Rattle.pgs_snapset.specs.declared.snapset.SnapSet.{SnapSet}
use Rattle.pgs_store.specs.Firsts.{at_snap}
use Rattle.pgs_op.specs.declared.head.Head.{Head}

abbrev pub is_remove : Op → Bool
is_remove Remove = true
is_remove op = false

-- the operation is refused where the head doesn't exist
abbrev pub wants_head : Op → Bool
wants_head (Truncate size) = true
wants_head (RmAttr name) = true
wants_head (RmOmap key) = true
wants_head Remove = true
wants_head op = false

-- the size of the head's data after a piece was put at a place: an empty piece leaves the data, and its place counts for nothing
abbrev pub written_size : ℕ → ℕ → ℕ → ℕ
written_size at piece size = if piece == 0 then size else max size (at + piece)

-- the size of the head's data after an operation, by the size before
abbrev pub size_after : Op → ℕ → ℕ
size_after (Full payload) size = size_of payload
size_after (Write at payload) size = written_size at (size_of payload) size
size_after (Truncate n) size = n
size_after Remove size = 0
size_after op size = size

-- ---- what is recorded

-- the digest that is recorded of the data: by `Full` that of its bytes, and none where other operations change the data
abbrev pub data_digest_after : Op → Option ℕ → Option ℕ
data_digest_after (Full payload) digest = Some (crc (bytes_of payload))
data_digest_after (Write at payload) digest = None
data_digest_after (Truncate size) digest = None
data_digest_after Remove digest = None
data_digest_after op digest = digest

-- and of the omap with its header: none where it is changed
abbrev pub omap_digest_after : Op → Option ℕ → Option ℕ
omap_digest_after (SetOmap key payload) digest = None
omap_digest_after (RmOmap key) digest = None
omap_digest_after (SetHeader payload) digest = None
omap_digest_after Remove digest = None
omap_digest_after op digest = digest

-- the version that an info tells, or 0'0 where there is none
abbrev pub version_in : Option ObjectInfo → Version
version_in None = record { epoch = 0; number = 0 }
version_in (Some info) = info.version

-- the digests that an info tells
abbrev pub data_digest_in : Option ObjectInfo → Option ℕ
data_digest_in None = None
data_digest_in (Some info) = info.data_digest

abbrev pub omap_digest_in : Option ObjectInfo → Option ℕ
omap_digest_in None = None
omap_digest_in (Some info) = info.omap_digest

-- what is told of a head that exists
abbrev pub where_there : Bool → Option ℕ → Option ℕ
where_there there digest = if there then digest else None

-- the info of the head after a write: the write's version, and behind it the version before
abbrev pub info_after : Family → Head → Version → Op → ObjectInfo
info_after family head version op = record {
  id = at_snap family HEAD;
  version = version;
  prior = version_in head.info;
  size = size_after op head.size;
  data_digest = data_digest_after op (where_there head.exists (data_digest_in head.info));
  omap_digest = omap_digest_after op (where_there head.exists (omap_digest_in head.info));
  whiteout = is_remove op;
}

-- the info of a clone: the head's, at the clone's snap, with the write's version and behind it the head's
abbrev pub clone_info : Family → Head → Version → ℕ → ObjectInfo
clone_info family head version snap = record {
  id = at_snap family snap;
  version = version;
  prior = version_in head.info;
  size = head.size;
  data_digest = data_digest_in head.info;
  omap_digest = omap_digest_in head.info;
  whiteout = false;
}

-- ---- the clone and the snapset

-- the clone that a write makes: none where the head doesn't exist
abbrev pub clone_of : Head → SnapContext → Option CloneFacts
clone_of head context = if head.exists then clone_made head.snapset context.seq context.snaps head.size else None

abbrev pub snapset_behind : Head → SnapContext → SnapSet
snapset_behind head context = snapset_after head.snapset context.seq (clone_of head context)

-- ---- the effects, in their order

abbrev pub Effects : Type 0
Effects = List (ℕ × Effect)

-- the head is first copied to the clone
abbrev pub cloning : Family → Head → Version → Option CloneFacts → Effects
cloning family head version None = []
cloning family head version (Some clone) = (clone.snap, effects.Clone (info_spelling (clone_info family head version clone.snap))) ∷ []

-- a head that is removed or doesn't exist becomes an empty one
abbrev pub clearing : Head → Op → Effects
clearing head op = if is_remove op || not head.exists then (HEAD, effects.Clear) ∷ [] else []

-- a piece is put over the data, where it isn't empty
abbrev pub writing : ℕ → List ℕ → Effects
writing at [] = []
writing at bytes = (HEAD, effects.Write at bytes) ∷ []

-- the operation's own effect: none of an empty `Write` and of `Remove`
abbrev pub doing : Op → Effects
doing (Full payload) = (HEAD, effects.SetData (bytes_of payload)) ∷ []
doing (Write at payload) = writing at (bytes_of payload)
doing (Truncate size) = (HEAD, effects.Truncate size) ∷ []
doing (SetAttr name payload) = (HEAD, effects.SetAttr name (bytes_of payload)) ∷ []
doing (RmAttr name) = (HEAD, effects.RmAttr name) ∷ []
doing (SetOmap key payload) = (HEAD, effects.SetOmap key (bytes_of payload)) ∷ []
doing (RmOmap key) = (HEAD, effects.RmOmap key) ∷ []
doing (SetHeader payload) = (HEAD, effects.SetHeader (bytes_of payload)) ∷ []
doing Remove = []

-- at the end the info and the snapset are recorded
abbrev pub recording : ObjectInfo → SnapSet → Effects
recording info set = (HEAD, effects.SetAttr info_name (info_spelling info)) ∷ (HEAD, effects.SetAttr snapset_name (snapset_spelling set)) ∷ []

-- a removed head goes where no clone is left; it becomes a whiteout otherwise
abbrev pub goes : Op → SnapSet → Bool
goes op set = is_remove op && (length set.clones == 0)

abbrev pub on_head : Family → Head → SnapSet → Version → Op → Effects
on_head family head set version op =
    if goes op set then (HEAD, effects.Remove) ∷ []
    else clearing head op ++ doing op ++ recording (info_after family head version op) set

-- the effects of a write on an object of which the clean store tells this of the head
unfoldable pub effects_of : Family → Head → SnapContext → Version → Op → Effects
effects_of family head context version op =
    cloning family head version (clone_of head context) ++ on_head family head (snapset_behind head context) version op
