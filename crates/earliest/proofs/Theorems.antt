-- "The first stage that fails answers; within it the earliest token" (document 01): refusals 5 and 16 list their faults in source order, so that
-- the first of each list, which answers, is the earliest.
-- Assumes nothing.
use mathlib.Core.Path.{◌≡◌}
use mathlib.Core.List.{List, ◌∷◌}
use Prim.Native.Nat.{ℕ}
use Rattle.ll1.specs.Trees.{Trees}
use Rattle.grammar.specs.Derivation.{Derives}
use Rattle.grammar.specs.Source.{source_tokens}
use Rattle.grammar.specs.Places.{places_of, Ascending}
use Rattle.grammar.specs.Ranges.{out_of_range, second_words}
use Rattle.grammar.proofs.SourceTokens.{tokens_ascend}
use Rattle.earliest.specs.Order.{Sublist, Later}
use Rattle.earliest.proofs.Sublists.{ascending_sublist, first_earliest}
use Rattle.earliest.proofs.Gathered.{places_are}
use Rattle.earliest.proofs.Seconds.{seconds_in_order}
use Rattle.earliest.proofs.Outside.{outside_in_order}

module _ (s : List ℕ) (tree : Trees) (d : Derives (source_tokens s) tree) where
  -- 5, "number outside its place", and "also for a number over its size" (document 02, W-204): its faults are some of the source's tokens, in their
  -- order;
  pub outside_tokens : Sublist (out_of_range s tree) (places_of (source_tokens s))
  outside_tokens = rw (places_are, d.reads) at (outside_in_order s d.fits)

  -- each is after the one before it;
  pub outside_ascend : Ascending 0 (out_of_range s tree)
  outside_ascend = ascending_sublist outside_tokens (tokens_ascend s)

  -- and all others after the first
  pub outside_earliest : (p : ℕ) (ps : List ℕ) → out_of_range s tree ≡ p ∷ ps → Later p ps
  outside_earliest p ps e = first_earliest (rw e at outside_ascend)

  -- 16, "a second size or display word in one numeric, even the same" (W-204): likewise
  pub second_tokens : Sublist (second_words tree) (places_of (source_tokens s))
  second_tokens = rw (places_are, d.reads) at (seconds_in_order d.fits)

  pub second_ascend : Ascending 0 (second_words tree)
  second_ascend = ascending_sublist second_tokens (tokens_ascend s)

  pub second_earliest : (p : ℕ) (ps : List ℕ) → second_words tree ≡ p ∷ ps → Later p ps
  second_earliest p ps e = first_earliest (rw e at second_ascend)
