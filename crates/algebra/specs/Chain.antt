-- Values that can be joined and met, and the laws of it. Assumes nothing.
use Rattle.std.specs.Prelude.{◌≡◌}

-- the operations of a chain algebra
pub record Chain (V : Type 0) : Type 0 where
  pub zero : V
  pub one : V
  pub join : V → V → V
  pub meet : V → V → V

-- its laws; meet need not commute
pub record Laws {V : Type 0} (A : Chain V) : Type 0 where
  pub join_assoc : (a b c : V) → A.join (A.join a b) c ≡ A.join a (A.join b c)
  pub join_comm : (a b : V) → A.join a b ≡ A.join b a
  pub join_idem : (a : V) → A.join a a ≡ a
  pub join_zero : (a : V) → A.join A.zero a ≡ a
  pub meet_assoc : (a b c : V) → A.meet (A.meet a b) c ≡ A.meet a (A.meet b c)
  pub one_meet : (a : V) → A.meet A.one a ≡ a
  pub meet_one : (a : V) → A.meet a A.one ≡ a
  pub zero_meet : (a : V) → A.meet A.zero a ≡ A.zero
  pub meet_zero : (a : V) → A.meet a A.zero ≡ A.zero
  pub meet_join : (a b c : V) → A.meet a (A.join b c) ≡ A.join (A.meet a b) (A.meet a c)
  pub join_meet : (a b c : V) → A.meet (A.join a b) c ≡ A.join (A.meet a c) (A.meet b c)
  pub one_join : (a : V) → A.join A.one a ≡ A.one
