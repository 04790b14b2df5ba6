-- A text that reads as a shape says has a tree over the shape, whose leaves are the text's tokens; and the parts and classes of such a tree.
-- Assumes nothing.
use mathlib.Core.Path.{◌≡◌, refl, ap, ap₂, sym, ◌∙◌}
use mathlib.Core.List.{List, [], ◌∷◌, ◌++◌, map-append, append_assoc, append-nil}
use Prim.Native.Nat.{ℕ, zero, suc}
use Rattle.ll1.specs.Trees.{Token, token, Trees, nil, leaf, node, leaves}
use Rattle.grammar.specs.Parts.{child, chosen}
use Rattle.grammar.specs.Flags.{class_of, classes}
use Rattle.formulas.specs.Shapes.{Lexed, AllValid, none_valid, more_valid, Shape, s_nil, s_leaf, s_node, flat, lexed, part, taken, token_of}
use Rattle.formulas.specs.Shapes.{Read, read_sign, read_decimal, read_rule, read_hex, Reads, reads_none, reads_more, Over, over_nil, over_leaf, over_node}

pub valid_append : {ls ms : List Lexed} → AllValid ls → AllValid ms → AllValid (ls ++ ms)
valid_append none_valid n = n
valid_append (more_valid v m) n = more_valid v (valid_append m n)

-- the tree of a shape over the first tokens, and the tokens that are left
pub record Dressed (t : List ℕ) (x : Shape) (ts : List Token) (ls : List Lexed) : Type 0 where
  pub tree : Trees
  pub left : List Token
  pub over : Over t tree x
  pub all : leaves tree ++ left ≡ ts
  pub then : Reads t left ls

pub dressed : (t : List ℕ) (x : Shape) (ts : List Token) (ls : List Lexed) → Reads t ts (lexed x ++ ls) → Dressed t x ts ls
dressed t s_nil ts ls r = record { tree = nil; left = ts; over = over_nil; all = refl; then = r }
dressed t (s_leaf l x) ts ls (reads_more {k = k} {p = p} h r) =
    let d = dressed t x _ ls r in
    record { tree = leaf (token k p) d.tree; left = d.left; over = over_leaf h d.over; all = ap (λ us. token k p ∷ us) d.all; then = d.then }
dressed t (s_node A i c x) ts ls r =
    let d = dressed t c ts (lexed x ++ ls) (rw (append_assoc (lexed c) (lexed x) ls) at r) in
    let e = dressed t x d.left ls d.then in
    record {
      tree = node A i d.tree e.tree;
      left = e.left;
      over = over_node d.over e.over;
      all = append_assoc (leaves d.tree) (leaves e.tree) e.left ∙ ap (λ us. leaves d.tree ++ us) e.all ∙ d.all;
      then = e.then;
    }

-- a text that reads as a shape says has a tree over it
pub record Covered (t : List ℕ) (x : Shape) (ts : List Token) : Type 0 where
  pub tree : Trees
  pub over : Over t tree x
  pub all : leaves tree ≡ ts

pub covered : (t : List ℕ) (x : Shape) (ts : List Token) → Reads t ts (lexed x) → Covered t x ts
covered t x ts r = by (dressed t x ts [] (rw (append-nil (lexed x)) r))
  where
    by : Dressed t x ts [] → Covered t x ts
    by d = record { tree = d.tree; over = d.over; all = sym (append-nil (leaves d.tree)) ∙ ap (λ us. leaves d.tree ++ us) (sym (none_left d.then)) ∙ d.all }
      where
        none_left : {us : List Token} → Reads t us [] → us ≡ []
        none_left reads_none = refl

-- ---- the parts of a tree over a shape are over the shape's parts

pub over_part : {t : List ℕ} (n : ℕ) {T : Trees} {x : Shape} → Over t T x → Over t (child n T) (part n x)
over_part n over_nil = over_nil
over_part zero (over_leaf r o) = over_nil
over_part (suc n) (over_leaf r o) = over_part n o
over_part zero (over_node o₁ o₂) = o₁
over_part (suc n) (over_node o₁ o₂) = over_part n o₂

pub over_taken : {t : List ℕ} (n : ℕ) {T : Trees} {x : Shape} → Over t T x → chosen n T ≡ taken n x
over_taken n over_nil = refl
over_taken zero (over_leaf r o) = refl
over_taken (suc n) (over_leaf r o) = over_taken n o
over_taken zero (over_node o₁ o₂) = refl
over_taken (suc n) (over_node o₁ o₂) = over_taken n o₂

-- ---- and its tokens have the classes of the shape's words

read_class : {t : List ℕ} {k p : ℕ} {l : Lexed} → Read t k p l → k ≡ class_of (token_of l)
read_class read_sign = refl
read_class (read_decimal e) = refl
read_class (read_rule e w) = refl
read_class (read_hex e d) = refl

pub over_classes : {t : List ℕ} {T : Trees} {x : Shape} → Over t T x → classes T ≡ classes (flat x)
over_classes over_nil = refl
over_classes (over_leaf h o) = ap₂ ◌∷◌ (read_class h) (over_classes o)
over_classes (over_node {c = c} {f = f} {d = d} {x = x} o₁ o₂) =
    map-append class_of (leaves c) (leaves f) ∙ ap₂ ◌++◌ (over_classes o₁) (over_classes o₂)
    ∙ sym (map-append class_of (leaves (flat d)) (leaves (flat x)))
