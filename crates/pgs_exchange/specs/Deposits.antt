-- How what a scan ended with is handed, and what a deposit tells.
use Rattle.std.specs.Prelude.{ℕ, Result, Ok, Err}
use Rattle.pgs_map.specs.declared.scrub_map.ScrubMap.{ScrubMap}
use Rattle.pgs_map_encoding.specs.Maps.{map_spelling, read_map}
use Rattle.pgs_exchange.specs.declared.deposit.Deposit.{Deposit}
use Rattle.pgs_exchange.specs.declared.deposit.Handed.{Handed}
use Rattle.pgs_exchange.specs.declared.deposit.Handed.TheVariants as handed
use Rattle.pgs_exchange.specs.declared.scan_result.Found.{Found}
use Rattle.pgs_exchange.specs.declared.scan_result.Found.TheVariants as results
use Rattle.pgs_exchange.specs.declared.scan_result.ScanResult.{ScanResult}

-- a map is handed as its bytes
abbrev pub handed_of : Found → Handed
handed_of (results.Map map) = handed.Map (map_spelling map)
handed_of (results.ListFault count) = handed.ListFault count

abbrev pub deposit_of : ScanResult → Deposit
deposit_of r = record { osd = r.osd; serial = r.serial; chunk = r.chunk; applied = r.applied; place = r.place; found = handed_of r.found }

-- bytes that are no map are refused where they aren't
abbrev pub map_found : Result ScrubMap ℕ → Result Found ℕ
map_found (Ok map) = Ok (results.Map map)
map_found (Err at) = Err at

abbrev pub found_in : Handed → Result Found ℕ
found_in (handed.Map text) = map_found (read_map text)
found_in (handed.ListFault count) = Ok (results.ListFault count)

abbrev pub with_found : Deposit → Result Found ℕ → Result ScanResult ℕ
with_found d (Ok found) = Ok (record { osd = d.osd; serial = d.serial; chunk = d.chunk; applied = d.applied; place = d.place; found = found })
with_found d (Err at) = Err at

abbrev pub read_deposit : Deposit → Result ScanResult ℕ
read_deposit d = with_found d (found_in d.found)

-- a deposit that tells something
abbrev pub IsRead : Result ScanResult ℕ → Type 0
IsRead (Ok told) = Unit {0}
IsRead (Err at) = ⊥

abbrev pub IsWhole : Deposit → Type 0
IsWhole d = IsRead (read_deposit d)

-- what a deposit tells, seen as an answer
abbrev pub as_read : ScanResult → Result ScanResult ℕ
as_read told = Ok told
