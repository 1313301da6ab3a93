-- What a step that is done says of its parts. Assumes nothing.
use Rattle.std.proofs.Common.{◌≡◌, ℕ, Bool, true, false, cond, Some, None, Ok, Err, Option, Result, sym, refl, ap, arith}
use Rattle.std.specs.Option.{ok_or}
use Rattle.text.specs.Outcomes.{and_then, map_ok}

pub err_ok : {X E Z : Type 0} (e : E) (x : X) → ◌≡◌ {A = Result X E} (Err e) (Ok x) → Z
err_ok e x h = let z : ◌≡◌ {A = ℕ} 0 1 = cc in absurd (omega arith)

pub off_on : {Z : Type 0} → false ≡ true → Z
off_on h = let z : ◌≡◌ {A = ℕ} 0 1 = cc in absurd (omega arith)

pub none_some : {X Z : Type 0} (x : X) → ◌≡◌ {A = Option X} None (Some x) → Z
none_some x h = let z : ◌≡◌ {A = ℕ} 0 1 = cc in absurd (omega arith)

pub same_ok : {X E : Type 0} (x y : X) → ◌≡◌ {A = Result X E} (Ok x) (Ok y) → x ≡ y
same_ok x y h = cc

pub same_some : {X : Type 0} (x y : X) → Some x ≡ Some y → x ≡ y
same_some x y h = cc

pub then_ok : {X Y E : Type 0} (r : Result X E) (f : X → Result Y E) (y : Y) → and_then r f ≡ Ok y → (x : X) × (r ≡ Ok x) × (f x ≡ Ok y)
then_ok (Ok x) f y h = (x, refl, h)
then_ok (Err e) f y h = err_ok e y h

pub map_ok_lem : {X Y E : Type 0} (g : X → Y) (r : Result X E) (y : Y) → map_ok g r ≡ Ok y → (x : X) × (r ≡ Ok x) × (g x ≡ y)
map_ok_lem g (Ok x) y h = (x, refl, same_ok (g x) y h)
map_ok_lem g (Err e) y h = err_ok e y h

pub or_ok : {X E : Type 0} (o : Option X) (e : E) (x : X) → ok_or o e ≡ Ok x → o ≡ Some x
or_ok None e x h = err_ok e x h
or_ok (Some y) e x h = ap Some (same_ok y x h)

pub yes_ok : {X E : Type 0} (b : Bool) (r : Result X E) (e : E) (x : X) → cond b r (Err e) ≡ Ok x → (b ≡ true) × (r ≡ Ok x)
yes_ok true r e x h = (refl, h)
yes_ok false r e x h = err_ok e x h

pub no_ok : {X E : Type 0} (b : Bool) (r : Result X E) (e : E) (x : X) → cond b (Err e) r ≡ Ok x → (b ≡ false) × (r ≡ Ok x)
no_ok true r e x h = err_ok e x h
no_ok false r e x h = (refl, h)

pub if_some : {X : Type 0} (b : Bool) (o : Option X) (x : X) → cond b o None ≡ Some x → (b ≡ true) × (o ≡ Some x)
if_some true o x h = (refl, h)
if_some false o x h = none_some x h

pub yes_none : {X : Type 0} (b : Bool) (o : Option X) (x : X) → cond b o (Some x) ≡ None → (b ≡ true) × (o ≡ None)
yes_none true o x h = (refl, h)
yes_none false o x h = none_some x (sym h)

pub no_none : {X : Type 0} (b : Bool) (o : Option X) (x : X) → cond b (Some x) o ≡ None → (b ≡ false) × (o ≡ None)
no_none true o x h = none_some x (sym h)
no_none false o x h = (refl, h)
