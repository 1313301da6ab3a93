-- The reasons for a decline. Assumes nothing.
use Rattle.std.specs.Prelude.{ℕ, cond, nat_le}
use Rattle.text.specs.declared.fault.Fault.{Fault}
use Rattle.text.specs.declared.fault.Layer.{Layer}
use Rattle.text.specs.declared.fault.Layer.TheVariants.{Text, Record, Circuit, Call}
use Rattle.text.specs.declared.fault.Reason.{Reason}
use Rattle.text.specs.declared.fault.Reason.TheVariants.{
  TextTooLong,
  MalformedLine,
  UnknownWord,
  OutOfTurn,
  FieldCount,
  BadField,
  TooManyRecords,
  NetNotAllowed,
  OutputWithoutGate,
  WaitingRing,
  LargeComponent,
  CircuitAbsent,
  PortsDiffer,
  AlgebraUnfit,
  AlgebraDeclined,
  OutOfRange,
  WorkTableShort,
  NoSuchAlgebra,
  PageShort,
}

abbrev pub number_of : Reason → ℕ
number_of TextTooLong = 1
number_of MalformedLine = 2
number_of UnknownWord = 3
number_of OutOfTurn = 4
number_of FieldCount = 5
number_of BadField = 6
number_of TooManyRecords = 7
number_of NetNotAllowed = 8
number_of OutputWithoutGate = 9
number_of WaitingRing = 10
number_of LargeComponent = 11
number_of CircuitAbsent = 12
number_of PortsDiffer = 13
number_of AlgebraUnfit = 14
number_of AlgebraDeclined = 15
number_of OutOfRange = 16
number_of WorkTableShort = 17
number_of NoSuchAlgebra = 18
number_of PageShort = 19

-- 1 and 2 are of the text, 3 to 6 of the record, 7 to 11 of the circuit, the rest of the call
abbrev pub layer_of : Reason → Layer
layer_of w = cond (nat_le (number_of w) 2) Text (cond (nat_le (number_of w) 6) Record (cond (nat_le (number_of w) 11) Circuit Call))

-- the decline for a reason, at line n and place p
abbrev pub fault : Reason → ℕ → ℕ → Fault
fault w n p = record { reason = w; line = n; place = p; layer = layer_of w }
