-- What the words of a line name.
use Rattle.std.specs.Prelude.{ℕ}
use Rattle.pgs_lines.specs.declared.object.Object.{Object}
use Rattle.pgs_lines.specs.declared.snap.Snap.{Snap}
use Rattle.pgs_lines.specs.declared.snap.Snap.TheVariants.{Head, Clone}
use Rattle.pgs_lines.specs.declared.damage.Damage.{Damage as LineDamage}
use Rattle.pgs_lines.specs.declared.damage.Damage.TheVariants as line_damages
use Rattle.pgs_lines.specs.declared.kind.Kind.{Kind as LineKind}
use Rattle.pgs_lines.specs.declared.kind.Kind.TheVariants as line_kinds
use Rattle.pgs_name.specs.Families.{Family, family_named}
use Rattle.pgs_name.specs.declared.object_id.TheConstants.{HEAD}
use Rattle.pgs_chunk.specs.declared.kind.Kind.{Kind}
use Rattle.pgs_chunk.specs.declared.kind.Kind.TheVariants as kinds
use Rattle.pgs_copy.specs.declared.damage.Damage.{Damage}
use Rattle.pgs_copy.specs.declared.damage.Damage.TheVariants as damages
use Rattle.pgs_request.specs.Payloads.{bytes_of}
use Rattle.pgs_request.specs.declared.op.Op.{Op}
use Rattle.pgs_request.specs.declared.req_id.ReqId.{ReqId}
use Rattle.pgs_request.specs.declared.snap_context.SnapContext.{SnapContext}
use Rattle.pgs_op.specs.declared.write.Write.{Write}

-- the family of an object: an empty key stands for the name
abbrev pub family_of : Object → Family
family_of object = family_named object.space object.key object.name

abbrev pub snap_of : Snap → ℕ
snap_of Head = HEAD
snap_of (Clone snap) = snap

abbrev pub damage_of : LineDamage → Damage
damage_of line_damages.Lose = damages.Lose
damage_of (line_damages.Flip at xor) = damages.Flip at xor
damage_of (line_damages.Cut size) = damages.Cut size
damage_of (line_damages.SetData p) = damages.SetData (bytes_of p)
damage_of (line_damages.SetAttr name p) = damages.SetAttr name (bytes_of p)
damage_of (line_damages.RmAttr name) = damages.RmAttr name
damage_of (line_damages.SetOmap key p) = damages.SetOmap key (bytes_of p)
damage_of (line_damages.RmOmap key) = damages.RmOmap key
damage_of (line_damages.SetHeader p) = damages.SetHeader (bytes_of p)

abbrev pub kind_of : LineKind → Kind
kind_of line_kinds.Shallow = kinds.Shallow
kind_of line_kinds.Deep = kinds.Deep

abbrev pub id_of : ℕ → ℕ → ReqId
id_of client serial = record { client = client; serial = serial }

abbrev pub write_of : ℕ → ℕ → Object → SnapContext → Op → Write
write_of client serial object context op = record { id = id_of client serial; family = family_of object; context = context; op = op }
