-- The items that a shard was fed.
use Rattle.std.specs.Prelude.{ℕ, ◌≡◌, ◌+◌, nat_lt, ◌==◌, List, [], ◌∷◌, ◌++◌, length, reverse, Option}
use Rattle.std.specs.List.{filter, find}
use Rattle.pgs_medium.specs.declared.item.Item.{Item}
use Rattle.pgs_shard_history.specs.declared.event.Event.{Event}
use Rattle.pgs_shard_history.specs.declared.event.Event.TheVariants.{Fed}

-- the items are numbered from one after `from` on
abbrev pub AreNext : ℕ → List Item → Type 0
AreNext from [] = Unit {0}
AreNext from (item ∷ items) = (item.number ≡ from + 1) × AreNext (from + 1) items

-- the items, the newest first, are numbered from 1
abbrev pub AreNumbered : List Item → Type 0
AreNumbered [] = Unit {0}
AreNumbered (item ∷ items) = (item.number ≡ length items + 1) × AreNumbered items

-- the items with a number above the last
abbrev pub beyond : ℕ → List Item → List Item
beyond last items = filter (λ item. nat_lt last item.number) items

-- a feed adds the items that weren't there
abbrev pub fed_after : Event → List Item → List Item
fed_after (Fed from items ask) before = reverse (beyond (length before) items) ++ before
fed_after _ before = before

-- all items that were fed, the newest first
abbrev pub fed : List Event → List Item
fed [] = []
fed (event ∷ past) = fed_after event (fed past)

-- the item of a number
abbrev pub item_of : ℕ → List Item → Option Item
item_of number items = find (λ item. item.number == number) items
