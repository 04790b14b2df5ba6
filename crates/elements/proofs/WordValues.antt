-- The value of a flag word by its class: there is one where the class is a word's.
-- Assumes nothing.
use Prim.Native.Nat.{ℕ}
use mathlib.Core.Path.{◌≡◌, refl, sym, ap, ◌∙◌}
use mathlib.Core.Bool.{Bool, true, false, cond, ◌||◌, or_assoc}
use mathlib.Core.List.{List, [], ◌∷◌, ◌++◌}
use lib.Dec.{eqb}
use Rattle.std.specs.Prelude.{Option, None, Some}
use Rattle.std.specs.Option.{is_some, unwrap_or}
use Rattle.ll1.specs.ParseTable.{member}
use Rattle.ll1.proofs.Basics.{member_append}
use Rattle.grammar.specs.Flags.{FlagWord, size_words, display_words, classes_of, value_or}
use Rattle.elements.specs.Kinds.{flag_classes, numeric_classes}
use Rattle.elements.specs.Words.{value_of}

pub is_word : (ws : List FlagWord) (k : ℕ) → is_some (value_of ws k) ≡ member k (classes_of ws)
unfolding value_of
is_word [] k = refl
is_word (w ∷ ws) k = by (eqb w.class k) (is_word ws k)
  where
    by : (b : Bool) → is_some (value_of ws k) ≡ member k (classes_of ws) → is_some (cond b (Some w.value) (value_of ws k)) ≡ b || member k (classes_of ws)
    by true later = refl
    by false later = later

pub value_is : (ws : List FlagWord) (other k : ℕ) → unwrap_or (value_of ws k) other ≡ value_or other ws k
unfolding value_of
value_is [] other k = refl
value_is (w ∷ ws) other k = by (eqb w.class k) (value_is ws other k)
  where
    by :
        (b : Bool) → unwrap_or (value_of ws k) other ≡ value_or other ws k
        → unwrap_or (cond b (Some w.value) (value_of ws k)) other ≡ cond b w.value (value_or other ws k)
    by true later = refl
    by false later = later

-- a class that is no word's
pub no_value : (ws : List FlagWord) (k : ℕ) → member k (classes_of ws) ≡ false → value_of ws k ≡ None
no_value ws k h = by (value_of ws k) (is_word ws k ∙ h)
  where
    by : (v : Option ℕ) → is_some v ≡ false → v ≡ None
    by None e = refl
    by (Some x) e = absurd cc

-- a word of a numeric's FL is a flag, a size or a display
pub numeric_word : (k : ℕ) → (member k flag_classes || is_some (value_of size_words k)) || is_some (value_of display_words k) ≡ member k numeric_classes
numeric_word k =
    let sizes = classes_of size_words in
    let displays = classes_of display_words in
    rw (is_word size_words k, is_word display_words k)
    (or_assoc (member k flag_classes) (member k sizes) (member k displays)
    ∙ (ap (◌||◌ (member k flag_classes)) (sym (member_append k sizes displays)) ∙ sym (member_append k flag_classes (sizes ++ displays))))
