-- What a station holds. Assumes nothing.
use Rattle.std.specs.Prelude.{◌≡◌, ℕ, List, length, Some, None, Ok, Err, Option, Result}
use Rattle.std.specs.Borrow.{Bor}
use Rattle.cell.specs.Circuits.{Drawn, Intended}
use Rattle.text.specs.declared.fault.Fault.{Fault}
use Rattle.order.specs.Found.{order_of}
use Rattle.files.specs.Files.{drawn_format, intended_format}
use Rattle.files.specs.Reading.{Reads}
use Rattle.circuits.specs.Bodies.{devices_of, gates_of}
use Rattle.station.specs.declared.report.Decline.{Decline}
use Rattle.station.specs.declared.report.Origin.TheVariants as origins
use Rattle.station.specs.declared.station.Station.{Station}
use Rattle.station.specs.declared.station.Summary.{Summary}
use Rattle.station.specs.Slots.{holds, nothing, ReadsInto}

pub record Held : Type 0 where
  pub drawn : Option Drawn
  pub intended : Option Intended

abbrev pub held : Station → Held
held s = record { drawn = holds devices_of s.drawn; intended = holds gates_of s.intended }

abbrev pub empty : Held
empty = record { drawn = nothing; intended = nothing }

-- the order that is kept with the drawn circuit
abbrev pub kept_order : Station → List (List ℕ)
kept_order s = order_of s.drawn.current.body.order

-- the OUT nets of a circuit, where there is one
abbrev pub OutsOf : Option Drawn → Option (Bor (List ℕ)) → Type 0
OutsOf None r = r ≡ None
OutsOf (Some c) None = ⊥
OutsOf (Some c) (Some outs) = outs.now ≡ c.outs

-- how much two circuits have
abbrev pub summed : Drawn → Intended → Summary
summed c g = record { ins = length c.ins; outs = length c.outs; devices = length c.body; gates = length g.body }

-- both texts are read, or the drawn one is declined and nothing changes, or it is read and the intended one is declined
pub data PairRead (drawn intended : List ℕ) (before : Held) : Result Summary Decline → Held → Type 0 where
  both : (c : Drawn) (g : Intended) → Reads drawn_format drawn (Ok c) → Reads intended_format intended (Ok g) → PairRead drawn intended before (Ok (summed c g)) (record { drawn = Some c; intended = Some g })
  drawn_declined : (f : Fault) → Reads drawn_format drawn (Err f) → PairRead drawn intended before (Err (record { origin = origins.Drawn; fault = f })) before
  intended_declined : (c : Drawn) (f : Fault) → Reads drawn_format drawn (Ok c) → Reads intended_format intended (Err f)
      → PairRead drawn intended before (Err (record { origin = origins.Intended; fault = f })) (record { drawn = Some c; intended = before.intended })

-- what a station holds after a pair was read, whatever came of it
abbrev pub LeftByPair : List ℕ → List ℕ → Held → Held → Type 0
LeftByPair drawn intended before after = (r : Result Summary Decline) × PairRead drawn intended before r after

-- what a station holds after a drawn text was read, whatever came of it
pub record LeftByDrawn (drawn : List ℕ) (before after : Held) : Type 0 where
  pub answer : Result ℕ Fault
  pub reads : ReadsInto drawn_format drawn before.drawn answer after.drawn
  pub other : after.intended ≡ before.intended
