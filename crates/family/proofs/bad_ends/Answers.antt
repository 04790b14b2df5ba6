-- `family::bad_ends` meets its contract. The loop keeps that the rest of the ends, after the one before, is as bad as all.
-- Assumes nothing.
use Prim.Native.Nat.{ℕ, suc}
use native.Mathlib.Numerals.{add-one}
use mathlib.Core.Path.{refl, sym, ap, ◌∙◌}
use mathlib.Core.List.{List}
use lib.ListN.{get_or, drop, drop_of_length-le}
use lib.Seq.{drop-cons}
use borrow.Author.Rules.{rules}
use Rattle.family.specs.Family.{bad_ends}
use Rattle.family.proofs.EndLaws.{no_more, falls, goes_on}
use Rattle.family.proofs.bad_ends.Goals as goal

pub loop-end-init : goal.loop-end-init
loop-end-init c = refl

pub returns-then-end-last : goal.returns-then-end-last
returns-then-end-last c =
    let args = c.args in
    let loop = c.loop-end in
    let ends = args.ends.now in
    let rest = drop-cons ends loop.end-index 0 (search rules) in
    falls loop.last args.length (get_or ends loop.end-index 0) (drop (suc loop.end-index) ends) c.if-end-last.true
    ∙ ap (λ (l : List ℕ). bad_ends loop.last l args.length) (sym rest) ∙ loop.invariant

pub loop-end-preserved : goal.loop-end-preserved
loop-end-preserved c =
    let args = c.args in
    let loop = c.loop-end in
    let ends = args.ends.now in
    let rest = drop-cons ends loop.end-index 0 (search rules) in
    rw add-one
    (sym (goes_on loop.last args.length (get_or ends loop.end-index 0) (drop (suc loop.end-index) ends) c.if-end-last.false)
    ∙ ap (λ (l : List ℕ). bad_ends loop.last l args.length) (sym rest) ∙ loop.invariant)

pub returns : goal.returns
returns c =
    let args = c.args in
    let loop = c.loop-end in
    let none = drop_of_length-le args.ends.now {i = loop.end-index} (search rules) in
    no_more loop.last args.length ∙ ap (λ (l : List ℕ). bad_ends loop.last l args.length) (sym none) ∙ loop.invariant
