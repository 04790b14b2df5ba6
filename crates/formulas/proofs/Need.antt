-- How many values wait follows from how deep groups nest: nine levels for each group.
-- Assumes nothing.
use Prim.Native.Nat.{ℕ, suc, ◌+◌, ◌*◌, ◌≤◌, max}
use native.Mathlib.Omega.{arith}
use mathlib.Core.Path.{◌≡◌, refl}
use mathlib.Core.Bool.{Bool, true, false}
use lib.Dec.{leb}
use borrow.Author.Tests.{leb-false}
use Rattle.formulas.specs.Formula.{Formula, f_number, f_constant, f_question, f_rule, f_not, f_binary, tight, inward, nest}
use Rattle.formulas.specs.Need.{need, MOST_WAITING}
use Rattle.formulas.proofs.Levels.{tight_lt}

-- each level adds a value that waits, and each group nine levels
pub need_nest : (n : ℕ) (e : Formula) → need e ≤ n + 9 * nest n e + 1
unfolding need
need_nest n (f_number v) = omega arith
need_nest n (f_constant c) = omega arith
need_nest n (f_question q) = omega arith
need_nest n (f_rule q) = omega arith
need_nest n (f_not e) = omega (arith, need_nest 0 e)
need_nest n (f_binary o l r) = by (leb n (tight o)) refl (need_nest (suc (tight o)) l) (need_nest (tight o) r)
  where
    by :
        (b : Bool) → leb n (tight o) ≡ b → need l ≤ suc (tight o) + 9 * nest (suc (tight o)) l + 1 → need r ≤ tight o + 9 * nest (tight o) r + 1
        → max (need l) (suc (need r)) ≤ n + 9 * inward (leb n (tight o)) (max (nest (suc (tight o)) l) (nest (tight o) r)) + 1
    by true q x y = rw q (omega (arith, tight_lt o))
    by false q x y = rw q (omega (arith, leb-false n (tight o) q))

pub need_most : (e : Formula) → nest 9 e ≤ 32 → need e ≤ MOST_WAITING
need_most e h = omega (arith, need_nest 9 e)
