-- Second size or display words (document 02, W-204, refusal 16) are listed in source order.
-- Assumes nothing.
use mathlib.Core.Path.{◌≡◌, refl}
use mathlib.Core.List.{List, [], ◌∷◌, append-nil}
use mathlib.Core.Option.{some}
use mathlib.Core.Bool.{Bool, true, false, not, cond, ◌&&◌, ◌||◌}
use Prim.Native.Nat.{ℕ}
use lib.Dec.{eqb}
use borrow.Author.Tests.{not-true}
use Rattle.lexemes.proofs.Lists.{either}
use Rattle.ll1.specs.Trees.{Token, token, Trees, leaves, Symbol, Alternative, alternative_of, Fits}
use Rattle.ll1.specs.ParseTable.{member}
use Rattle.ll1.proofs.Basics.{all_member, implied}
use Rattle.grammar.specs.Grammar.{rules}
use Rattle.grammar.specs.Rules.{<numeric_fl>, <numeric_flag>*, <numeric_flag>}
use Rattle.grammar.specs.Places.{places_of}
use Rattle.grammar.specs.Flags.{size_words, display_words, classes_of, seconds_after}
use Rattle.grammar.specs.Ranges.{gathered, seconds_here, second_words}
use Rattle.grammar.proofs.Alternatives.{everywhere, at_alternative}
use Rattle.earliest.specs.Order.{Sublist, sublist_none, sublist_take}
use Rattle.earliest.proofs.Sublists.{sublist_nil, sublist_append, sublist_if}
use Rattle.earliest.proofs.Gathered.{places, places_are, within, closed, AtNodes, in_order_lem, gathered_none}

-- among tokens
seconds_some : (sized shown : Bool) (ts : List Token) → Sublist (seconds_after sized shown ts) (places_of ts)
seconds_some sized shown [] = sublist_none
seconds_some sized shown (token k p ∷ ts) =
    let is_size = member k (classes_of size_words) in
    let is_display = member k (classes_of display_words) in
    let here : Sublist (cond (sized && is_size || shown && is_display) (p ∷ []) []) (p ∷ []) =
    sublist_if (sized && is_size || shown && is_display) (λ e. sublist_take sublist_none) (λ e. sublist_nil (p ∷ [])) in
    sublist_append here (seconds_some (sized || is_size) (shown || is_display) ts)

-- ---- trees: only a numeric's FL has such words of its own, and no FL stands in another

-- the rules in an FL
abbrev words : List ℕ
words = <numeric_flag> ∷ <numeric_flag>* ∷ []

silent : (A i : ℕ) (c : Trees) → member A words ≡ true → seconds_here A i c ≡ []
unfolding seconds_here
silent A i c m = rw (not-true (eqb A <numeric_fl>) (all_member (λ B. not (eqb B <numeric_fl>)) words A refl m))

in_fl : everywhere (λ A i a. not (eqb A <numeric_fl>) || within words a.symbols) ≡ true
unfolding rules
in_fl = refl

words_closed : closed words ≡ true
unfolding rules
words_closed = refl

none_in_fl :
    (A i : ℕ) (a : Alternative) (c : Trees)
    → eqb A <numeric_fl> ≡ true → alternative_of rules A i ≡ some a → Fits rules a.symbols c → gathered seconds_here c ≡ []
none_in_fl A i a c h e q =
    gathered_none seconds_here words words_closed silent q (implied (eqb A <numeric_fl>) (within words a.symbols) (at_alternative _ in_fl e) h)

at_node : AtNodes seconds_here
unfolding seconds_here
at_node A i a c e q inner =
    either (eqb A <numeric_fl>)
    (λ t. rw (t, none_in_fl A i a c t e q, places_are) (seconds_some false false (leaves c)))
    (λ t. rw (t, append-nil (gathered seconds_here c)) inner.all)

pub seconds_in_order : {σ : List Symbol} {f : Trees} → Fits rules σ f → Sublist (second_words f) (places f)
unfolding second_words
seconds_in_order q = (in_order_lem seconds_here at_node q).all
