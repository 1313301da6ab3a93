-- The facts of the drawn file's format. Assumes nothing.
use Rattle.std.proofs.Common.{◌≡◌, ℕ, ◌≤◌, true, List, [], ◌∷◌, length, Some, Option, sym, refl, ◌∙◌, subst, arith}
use lib.ListN.{length-map}
use Rattle.std.proofs.lemmas.Bool.{eqb-true}
use Rattle.cell.specs.declared.DeviceKind.{DeviceKind}
use Rattle.cell.specs.declared.DeviceKind.TheVariants.{N, P}
use Rattle.cell.specs.Circuits.{Drawn, device_nets, Numbered}
use Rattle.text.specs.declared.fault.Reason.{Reason}
use Rattle.text.specs.Lines.{field_formed}
use Rattle.records.specs.declared.Word.TheVariants.{Item}
use Rattle.records.specs.Records.{word_of, values}
use Rattle.records.specs.Kinds.{device_word}
use Rattle.files.specs.Files.{device_of, DrawnAtEnd, ring, large, sound, drawn_format}
use Rattle.files.proofs.Facts.{FormatFacts}

word_found : (k : DeviceKind) → word_of drawn_format (device_word k) ≡ Some (Item k)
word_found N = refl
word_found P = refl

word_formed : (k : DeviceKind) → field_formed (device_word k) ≡ true
word_formed N = refl
word_formed P = refl

word_short : (k : DeviceKind) → length (device_word k) ≤ 4
word_short N = omega arith
word_short P = omega arith

three : (k : DeviceKind) (xs : List ℕ) → length xs ≡ 3 → device_nets (device_of k xs) ≡ xs
three k [] h = absurd (omega arith)
three k (a ∷ []) h = absurd (omega arith)
three k (a ∷ b ∷ []) h = absurd (omega arith)
three k (a ∷ b ∷ c ∷ []) h = refl
three k (a ∷ b ∷ c ∷ d ∷ r) h = absurd (omega arith)

found_once : (c : Drawn) (a b : Option Reason) → DrawnAtEnd c a → DrawnAtEnd c b → a ≡ b
found_once c a b (ring w) (ring v) = refl
found_once c a b (ring w) (large n l) = absurd (n w)
found_once c a b (ring w) (sound n m) = absurd (n w)
found_once c a b (large n l) (ring w) = absurd (n w)
found_once c a b (large n l) (large o m) = refl
found_once c a b (large n l) (sound o m) = absurd (m l)
found_once c a b (sound n m) (ring w) = absurd (n w)
found_once c a b (sound n m) (large o l) = absurd (m l)
found_once c a b (sound n m) (sound o p) = refl

pub drawn_facts : FormatFacts drawn_format
drawn_facts = record {
  found = word_found;
  field = word_formed;
  short = word_short;
  back = λ d. refl;
  kind_of = λ k xs h. refl;
  nets_of_lem = λ k xs h. three k xs (eqb-true (length xs) 3 h);
  most = omega arith;
  nine = λ k m h. omega (arith, eqb-true m 3 h);
  ruled = λ ins items k xs t h b. subst Numbered (sym (three k (values xs) (length-map xs (λ x. x.value) ∙ eqb-true (length xs) 3 t))) h;
  takes = λ ins items d r. refl;
  numbered = λ ins items d r. r;
  allowed = λ ins items d r xs e. refl;
  once = found_once;
}
