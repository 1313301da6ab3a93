-- Steps that may decline, one after another. Assumes nothing.
use Rattle.std.specs.Prelude.{Bool, cond, Ok, Err, Result}

-- a decline where the test holds, else the next step
abbrev pub decline_if : {X E : Type 0} → Bool → E → Result X E → Result X E
decline_if b e next = cond b (Err e) next

-- the first decline, or the next step
abbrev pub and_then : {X Y E : Type 0} → Result X E → (X → Result Y E) → Result Y E
and_then (Ok x) f = f x
and_then (Err e) f = Err e

abbrev pub map_ok : {X Y E : Type 0} → (X → Y) → Result X E → Result Y E
map_ok f (Ok x) = Ok (f x)
map_ok f (Err e) = Err e

-- the value that goes with a step that is done
abbrev pub ok_with : {X Y E : Type 0} → Result X E → Y → Result Y E
ok_with (Ok x) y = Ok y
ok_with (Err e) y = Err e
