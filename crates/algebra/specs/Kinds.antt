-- What points and blocks mean. They keep nothing. Assumes nothing.
use Rattle.std.specs.Prelude.{ℕ, ◌*◌, ◌/◌, ◌%◌, ◌^◌, Bool, true, false, cond, ◌&&◌, ◌||◌, [], ◌∷◌, ◌==◌, nat_lt}
use Rattle.std.specs.List.{range_with_len}
use Rattle.algebra.specs.Chain.{Chain}
use Rattle.algebra.specs.Holding.{Meaning}

abbrev pub keeps_nothing : {V : Type 0} → V → V → Type 0
keeps_nothing v w = ⊥

-- the chain algebra of one bit
abbrev pub bits : Chain Bool
bits = record { zero = false; one = true; join = ◌||◌; meet = ◌&&◌ }

-- a point: every bit is in hand, and is its own value
abbrev pub point_meaning : ℕ → ℕ → Meaning Bool Bool
point_meaning n setting = record { room = 0; inputs = n; listed = setting ∷ []; spent = false; hand = λ s. true; value = λ s. s; holds = λ v. ⊥ }

-- the chain algebra of functions to bits
abbrev pub functions : Chain (ℕ → Bool)
functions = record { zero = λ t. false; one = λ t. true; join = λ f g t. f t || g t; meet = λ f g t. f t && g t }

-- bit j of a word, the lowest being bit 0
abbrev pub word_bit : ℕ → ℕ → Bool
word_bit w j = (w / (2 ^ j)) % 2 == 1

-- how many settings a block of n inputs lists: 64, or all where there are fewer
abbrev pub lanes : ℕ → ℕ
lanes n = cond (nat_lt n 6) (2 ^ n) 64

-- a word is in hand where it has no bit past the lanes, and else is taken as zero
abbrev pub is_in_hand : ℕ → ℕ → Bool
is_in_hand n w = nat_lt w (2 ^ lanes n)

abbrev pub taken : ℕ → ℕ → ℕ
taken n w = cond (is_in_hand n w) w 0

-- block k: bit j of a word is the bit at setting 64 * k + j, and its value is read at t as at place t modulo the lanes
abbrev pub block_meaning : ℕ → ℕ → Meaning ℕ (ℕ → Bool)
block_meaning n k = record {
  room = 0;
  inputs = n;
  listed = range_with_len (64 * k) (lanes n);
  spent = false;
  hand = is_in_hand n;
  value = λ w t. word_bit (taken n w) (t % lanes n);
  holds = λ f. ⊥;
}
