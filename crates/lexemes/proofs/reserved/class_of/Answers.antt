-- `lexemes::reserved::class_of` meets its contract: a place is at most the list's length.
use native.Mathlib.Omega.{arith}
use Rattle.lexemes.specs.Lexemes.{reserved}
use Rattle.lexemes.proofs.Equality.{place_le}
use Rattle.lexemes.proofs.Searching.{counted}
use Rattle.lexemes.proofs.reserved.class_of.Goals as goal

pub overflow_cast-result : goal.overflow_cast-result
overflow_cast-result c = let e = c.in-Some.ensures in omega (arith, e, place_le c.args.w.now reserved, counted)

pub overflow_add-result : goal.overflow_add-result
overflow_add-result c = let e = c.in-Some.ensures in omega (arith, e, place_le c.args.w.now reserved, counted)
