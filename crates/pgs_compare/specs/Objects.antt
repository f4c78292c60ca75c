-- The errors of the copies of a position among each other: one condition for each name, over the chosen copy and another.
use Rattle.std.specs.Prelude.{ℕ, suc, Bool, false, not, ◌==◌, ◌&&◌, ◌||◌, List, ◌++◌, take, drop, Option, Some, None, is_none}
use Rattle.std.specs.List.{filter, filter_map, list_any}
use Rattle.pgs_bytes.specs.Texts.{same_text}
use Rattle.pgs_name.specs.declared.object_id.ObjectId.{ObjectId}
use Rattle.pgs_copy.specs.Copies.{info_name, snapset_name}
use Rattle.pgs_copy.specs.Pairs.{Pairs, value_at}
use Rattle.pgs_map.specs.declared.entry.Entry.{Entry}
use Rattle.pgs_select.specs.Errors.{is_head, are_apart}
use Rattle.pgs_select.specs.Judging.{told}
use Rattle.pgs_find.specs.ObjectNames.{object_where, no_object}
use Rattle.pgs_find.specs.declared.object_errors.ObjectErrors.{ObjectErrors}
use Rattle.pgs_find.specs.declared.object_error.ObjectError.{ObjectError}
use Rattle.pgs_find.specs.declared.object_error.ObjectError.TheVariants as names

-- two values are both there, and differ
abbrev pub are_other : Option (List ℕ) → Option (List ℕ) → Bool
are_other None other = false
are_other (Some a) None = false
are_other (Some a) (Some b) = not (same_text a b)

-- a user attribute is any but `_` and `snapset`
abbrev pub is_user : List ℕ → Bool
is_user name = not (same_text name info_name) && not (same_text name snapset_name)

-- the user attributes among all
abbrev pub user_attrs : Pairs → Pairs
user_attrs attrs = filter (λ p. is_user p.0) attrs

-- a user attribute of both has different values
abbrev pub have_other_values : Pairs → Pairs → Bool
have_other_values a b = list_any (λ p. are_other (Some p.1) (value_at p.0 b)) (user_attrs a)

-- a user attribute of the first isn't on the second
abbrev pub has_name_beside : Pairs → Pairs → Bool
has_name_beside a b = list_any (λ p. is_none (value_at p.0 b)) (user_attrs a)

-- a user attribute is on one and not on the other
abbrev pub have_other_names : Pairs → Pairs → Bool
have_other_names a b = has_name_beside a b || has_name_beside b a

-- whether a name holds of the chosen copy and another one
abbrev pub differs : ObjectId → Entry → Entry → ObjectError → Bool
differs id chosen other names.ObjectInfoInconsistency = are_other (value_at info_name chosen.attrs) (value_at info_name other.attrs)
differs id chosen other names.SnapsetInconsistency = is_head id && are_other (value_at snapset_name chosen.attrs) (value_at snapset_name other.attrs)
differs id chosen other names.DataDigestMismatch = are_apart chosen.data_digest other.data_digest
differs id chosen other names.OmapDigestMismatch = are_apart chosen.omap_digest other.omap_digest
differs id chosen other names.SizeMismatch = not (chosen.size == other.size)
differs id chosen other names.AttrValueMismatch = have_other_values chosen.attrs other.attrs
differs id chosen other names.AttrNameMismatch = have_other_names chosen.attrs other.attrs

-- each name holds where it does of the chosen copy and at least one other
abbrev pub object_errors : ObjectId → Entry → List Entry → ObjectErrors
object_errors id chosen others = object_where (λ name. list_any (λ other. differs id chosen other name) others)

-- all others at their places that were told
abbrev pub others : ℕ → List (Option Entry) → List Entry
others place entries = filter_map told (take place entries ++ drop (suc place) entries)

-- the errors of a position's copies: none where none is chosen
abbrev pub errors_among : ObjectId → List (Option Entry) → Option ℕ → Option Entry → ObjectErrors
errors_among id entries (Some place) (Some chosen) = object_errors id chosen (others place entries)
errors_among id entries _ _ = no_object
