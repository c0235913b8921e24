-- Small facts on truth values.
use Rattle.std.proofs.Common.{◌≡◌, Bool, true, false, cond, not, ◌&&◌, ◌||◌, refl, sym, true≢false}

pub or_group : (a b c : Bool) → (a || (b || c)) ≡ ((a || b) || c)
or_group true b c = refl
or_group false b c = refl

pub put_in : (b c : Bool) → cond b true c ≡ (b || c)
put_in true c = refl
put_in false c = refl

pub taken_out : (b c : Bool) → cond b false c ≡ (not b && c)
taken_out true c = refl
taken_out false c = refl

pub either_way : (b c : Bool) → (b && c) ≡ (c && b)
either_way true true = refl
either_way true false = refl
either_way false true = refl
either_way false false = refl

pub or_swap : (a b c : Bool) → (a || (b || c)) ≡ (b || (a || c))
or_swap true true c = refl
or_swap true false c = refl
or_swap false b c = refl

pub or_turn : (a b : Bool) → (a || b) ≡ (b || a)
or_turn true true = refl
or_turn true false = refl
or_turn false true = refl
or_turn false false = refl

pub or_none : (a : Bool) → (a || false) ≡ a
or_none true = refl
or_none false = refl

pub never_both : (b : Bool) → (b && not b) ≡ false
never_both true = refl
never_both false = refl

pub same_answer : (a b : Bool) → (a && not b) ≡ false → (b && not a) ≡ false → a ≡ b
same_answer true true p q = refl
same_answer true false p q = p
same_answer false true p q = sym q
same_answer false false p q = refl

pub or_known : (a b : Bool) → (a ≡ true → b ≡ true) → (a || b) ≡ b
or_known true b f = sym (f refl)
or_known false b f = refl

pub and_known : (a b : Bool) → (a ≡ true → b ≡ false) → (not a && b) ≡ b
and_known true b f = sym (f refl)
and_known false b f = refl

pub taken_away : (a b : Bool) → (a ≡ true → b ≡ false) → b ≡ (not a && (a || b))
taken_away true b f = f refl
taken_away false b f = refl

pub repeated : (a b c : Bool) → b ≡ a → (a || c) ≡ (a || (b || c))
repeated true b c is = refl
repeated false true c is = absurd (true≢false is)
repeated false false c is = refl
