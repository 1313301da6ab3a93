-- What a report writes. Assumes nothing.
use Rattle.std.specs.Prelude.{◌≡◌, ℕ, ◌<◌, ◌≤◌, List, [], ◌∷◌, ◌++◌, length, drop, Ok, Err, codes, decimal, Result}
use Rattle.text.specs.declared.fault.Fault.{Fault}
use Rattle.text.specs.declared.fault.Reason.TheVariants.{PageShort}
use Rattle.text.specs.Faults.{number_of, fault}
use Rattle.files.specs.Written.{row}
use Rattle.station.specs.declared.report.Decline.{Decline}
use Rattle.station.specs.declared.report.Origin.{Origin}
use Rattle.station.specs.declared.report.Origin.TheVariants.{Drawn, Intended, Pair}

abbrev pub origin_word : Origin → List ℕ
origin_word Drawn = codes "drawn"
origin_word Intended = codes "intended"
origin_word Pair = codes "pair"

-- a decline as a line: the word DECLINED, whose it is, its number, line and place
abbrev pub declined_line : Decline → List ℕ
declined_line d = row (codes "DECLINED" ∷ origin_word d.origin ∷ decimal (number_of d.fault.reason) ∷ decimal d.fault.line ∷ decimal d.fault.place ∷ [])

-- a page of at least 64 bytes begins with the line and is else as it was, and the line's length is the answer; a shorter page is declined and left
abbrev pub Reported : List ℕ → List ℕ → Result ℕ Fault → List ℕ → Type 0
Reported line before (Ok n) after = (64 ≤ length before) × (n ≡ length line) × (after ≡ line ++ drop (length line) before)
Reported line before (Err f) after = (length before < 64) × (f ≡ fault PageShort 0 0) × (after ≡ before)
