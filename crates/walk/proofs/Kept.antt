-- What the trees of the grammar's small rules keep: an entry for each name and number, in the words of the rows' definitions.
-- Assumes nothing.
use Prim.Native.Nat.{ℕ, zero, suc, ◌+◌, ◌*◌}
use mathlib.Core.Path.{◌≡◌, refl, sym, ap, ◌∙◌}
use mathlib.Core.Bool.{true, cond}
use mathlib.Core.List.{List, [], ◌∷◌, ◌++◌, map, map-append}
use mathlib.Core.Option.{some}
use lib.Dec.{eqb}
use lib.ListN.{get_or, get_elem?}
use Rattle.lexemes.specs.Classes as class
use Rattle.lexemes.specs.Classes.{comma, open_paren, close_paren, NAME, HEX, DECIMAL}
use Rattle.ll1.specs.Trees.{token, Trees, nil, leaf, node, leaves, Symbol, Alternative, alternative_of, Fits, fits_nil, fits_leaf, fits_node}
use Rattle.ll1.proofs.Basics.{clash}
use Rattle.grammar.specs.Grammar.{rules}
use Rattle.grammar.specs.Notation.{t, r, plain, one, optional}
use Rattle.grammar.specs.Rules.{<H8>, <H4>, <H2>, <str>, <id>, <small>, <large>, <zero>, <goto_flags>?, <flags>?, <truth_default>?, <truth>, <step>?, <number_default>?, <option_flags>, <head>, <name>?, <questionid>?, <fl>, <flag>*, <flag>}
use Rattle.grammar.specs.Rules.{<numeric_flags>?, <numeric_fl>, <numeric_flag>*, <numeric_flag>, <numeric_value>}
use Rattle.grammar.specs.Parts.{child, chosen, place_at}
use Rattle.grammar.specs.Parts.{mark, when}
use Rattle.grammar.specs.Flags.{FlagWord, size_words, display_words, class_of, classes, flags, first_of, size_in, display_in}
use Rattle.grammar.proofs.FlagTotals.{none_of, flags_between, first_between}
use Rattle.rows.specs.Sizes.{NO_SIZE, UINT_DEC, size_and_display}
use Rattle.answers.specs.Rows.{name_mark, written_mark}
use Rattle.elements.specs.Entries.{node_entries, entries}
use Rattle.elements.proofs.TreeLaws.{entries_node}

-- ---- the alternatives of a rule, read back

module _ (P : ℕ → Trees → Type 0) where
  pub only_way :
      {α : List Symbol} {l : List Alternative}
      → l ≡ plain α ∷ [] → ((c : Trees) → Fits rules α c → P 0 c) → (i : ℕ) (a : Alternative) (c : Trees) → get_elem? l i ≡ some a
      → Fits rules a.symbols c → P i c
  only_way {α} e f i a c q h = by i (rw e at q)
    where
      by : (i : ℕ) → get_elem? (plain α ∷ []) i ≡ some a → P i c
      by zero q = let z : a ≡ plain α = cc in f c (rw z at h)
      by (suc i) q = clash cc

  pub either_way :
      {α β : List Symbol} {l : List Alternative}
      → l ≡ plain α ∷ plain β ∷ [] → ((c : Trees) → Fits rules α c → P 0 c) → ((c : Trees) → Fits rules β c → P 1 c)
      → (i : ℕ) (a : Alternative) (c : Trees) → get_elem? l i ≡ some a → Fits rules a.symbols c → P i c
  either_way {α} {β} e f g i a c q h = by i (rw e at q)
    where
      by : (i : ℕ) → get_elem? (plain α ∷ plain β ∷ []) i ≡ some a → P i c
      by zero q = let z : a ≡ plain α = cc in f c (rw z at h)
      by (suc zero) q = let z : a ≡ plain β = cc in g c (rw z at h)
      by (suc (suc i)) q = clash cc

-- the tree of rule A with alternative i over the trees c keeps one entry, whatever stands beside it
abbrev Keeping : ℕ → (ℕ → Trees → ℕ) → ℕ → Trees → Type 0
Keeping A e i c = (g : Trees) → entries (node A i c g) ≡ e i c ∷ entries g

-- each tree of rule A does
abbrev pub Keeps : ℕ → (ℕ → Trees → ℕ) → Type 0
Keeps A e = (i : ℕ) (a : Alternative) (c : Trees) → alternative_of rules A i ≡ some a → Fits rules a.symbols c → Keeping A e i c

-- ---- numbers

abbrev number_mark : ℕ → Trees → ℕ
number_mark i c = mark (place_at 0 c)

number_keeps :
    (A : ℕ) → get_or rules A [] ≡ plain (t DECIMAL ∷ []) ∷ plain (t HEX ∷ []) ∷ [] → ((i : ℕ) (c : Trees) (es : List ℕ) → node_entries A i c es ≡ es)
    → Keeps A number_mark
unfolding entries
number_keeps A q plainly = either_way (Keeping A (λ i c. mark (place_at 0 c))) q decimal hex
  where
    decimal : (c : Trees) → Fits rules (t DECIMAL ∷ []) c → (g : Trees) → entries (node A 0 c g) ≡ mark (place_at 0 c) ∷ entries g
    decimal c (fits_leaf {p = p} fits_nil) g = rw (plainly 0 (leaf (token DECIMAL p) nil) (mark p ∷ []))

    hex : (c : Trees) → Fits rules (t HEX ∷ []) c → (g : Trees) → entries (node A 1 c g) ≡ mark (place_at 0 c) ∷ entries g
    hex c (fits_leaf {p = p} fits_nil) g = rw (plainly 1 (leaf (token HEX p) nil) (mark p ∷ []))

pub id_keeps : Keeps <id> number_mark
unfolding rules node_entries
id_keeps = number_keeps <id> refl (λ i c es. refl)

pub small_keeps : Keeps <small> number_mark
unfolding rules node_entries
small_keeps = number_keeps <small> refl (λ i c es. refl)

pub large_keeps : Keeps <large> number_mark
unfolding rules node_entries
large_keeps = number_keeps <large> refl (λ i c es. refl)

pub numeric_value_keeps : Keeps <numeric_value> number_mark
unfolding rules node_entries
numeric_value_keeps = number_keeps <numeric_value> refl (λ i c es. refl)

-- GUID parts
hex_keeps : (A : ℕ) → get_or rules A [] ≡ plain (t HEX ∷ []) ∷ [] → ((i : ℕ) (c : Trees) (es : List ℕ) → node_entries A i c es ≡ es) → Keeps A number_mark
unfolding entries
hex_keeps A q plainly = only_way (Keeping A (λ i c. mark (place_at 0 c))) q hex
  where
    hex : (c : Trees) → Fits rules (t HEX ∷ []) c → (g : Trees) → entries (node A 0 c g) ≡ mark (place_at 0 c) ∷ entries g
    hex c (fits_leaf {p = p} fits_nil) g = rw (plainly 0 (leaf (token HEX p) nil) (mark p ∷ []))

pub H8_keeps : Keeps <H8> number_mark
unfolding rules node_entries
H8_keeps = hex_keeps <H8> refl (λ i c es. refl)

pub H4_keeps : Keeps <H4> number_mark
unfolding rules node_entries
H4_keeps = hex_keeps <H4> refl (λ i c es. refl)

pub H2_keeps : Keeps <H2> number_mark
unfolding rules node_entries
H2_keeps = hex_keeps <H2> refl (λ i c es. refl)

-- ---- STRING_TOKEN ( N )

pub str_keeps : Keeps <str> (λ i c. mark (place_at 0 (child 2 c)))
unfolding rules entries node_entries
str_keeps = only_way (Keeping <str> (λ i c. mark (place_at 0 (child 2 c)))) refl there
  where
    there :
        (c : Trees) → Fits rules (t class.STRING_TOKEN ∷ t open_paren ∷ r <small> ∷ t close_paren ∷ []) c → (g : Trees)
        → entries (node <str> 0 c g) ≡ mark (place_at 0 (child 2 c)) ∷ entries g
    there c (fits_leaf (fits_leaf (fits_node {i = i} {c = n} e h (fits_leaf {p = p} fits_nil)))) g = rw (small_keeps i _ n e h (leaf (token close_paren p) nil))

-- ---- parts that may be absent

abbrev if_there : ℕ → ℕ → ℕ
if_there i m = when (eqb i 1) m

pub name_keeps : Keeps <name>? (λ i c. if_there i (mark (place_at 2 c)))
unfolding rules entries node_entries
name_keeps = either_way (Keeping <name>? (λ i c. if_there i (mark (place_at 2 c)))) refl absent there
  where
    absent : (c : Trees) → Fits rules [] c → (g : Trees) → entries (node <name>? 0 c g) ≡ 0 ∷ entries g
    absent c fits_nil g = refl

    there :
        (c : Trees) → Fits rules (t class.«name» ∷ t class.«=» ∷ t NAME ∷ t comma ∷ []) c → (g : Trees)
        → entries (node <name>? 1 c g) ≡ mark (place_at 2 c) ∷ entries g
    there c (fits_leaf (fits_leaf (fits_leaf (fits_leaf fits_nil)))) g = refl

-- a word, `=`, a part that keeps an entry, and a comma
assigned :
    (A B k : ℕ) {e : ℕ → Trees → ℕ} → get_or rules A [] ≡ optional (t k ∷ t class.«=» ∷ r B ∷ t comma ∷ [])
    → ((i : ℕ) (c : Trees) (es : List ℕ) → node_entries A i c es ≡ es) → ((p : ℕ) (f : Trees) → entries (leaf (token k p) f) ≡ entries f)
    → Keeps B e → Keeps A (λ i c. if_there i (e (chosen 2 c) (child 2 c)))
unfolding entries
assigned A B k {e} q plainly silent part = either_way (Keeping A (λ i c. if_there i (e (chosen 2 c) (child 2 c)))) q absent there
  where
    absent : (c : Trees) → Fits rules [] c → (g : Trees) → entries (node A 0 c g) ≡ 0 ∷ entries g
    absent c fits_nil g = refl

    there :
        (c : Trees) → Fits rules (t k ∷ t class.«=» ∷ r B ∷ t comma ∷ []) c → (g : Trees)
        → entries (node A 1 c g) ≡ e (chosen 2 c) (child 2 c) ∷ entries g
    there c (fits_leaf {p = p} (fits_leaf {p = p₁} (fits_node {i = i} {c = n} a h (fits_leaf {p = p₂} fits_nil)))) g =
        let after = leaf (token class.«=» p₁) (node B i n (leaf (token comma p₂) nil)) in
        rw (plainly 1 (leaf (token k p) after) (entries (leaf (token k p) after)), silent p after, part i _ n a h (leaf (token comma p₂) nil))

pub questionid_keeps : Keeps <questionid>? (λ i c. if_there i (mark (place_at 0 (child 2 c))))
unfolding rules entries node_entries
questionid_keeps = assigned <questionid>? <id> class.«questionid» refl (λ i c es. refl) (λ p f. refl) id_keeps

pub step_keeps : Keeps <step>? (λ i c. if_there i (mark (place_at 0 (child 2 c))))
unfolding rules entries node_entries
step_keeps = assigned <step>? <numeric_value> class.«step» refl (λ i c es. refl) (λ p f. refl) numeric_value_keeps

pub default_keeps : Keeps <number_default>? (λ i c. if_there i (mark (place_at 0 (child 2 c))))
unfolding rules entries node_entries
default_keeps = assigned <number_default>? <numeric_value> class.«default» refl (λ i c es. refl) (λ p f. refl) numeric_value_keeps

-- TRUE or FALSE: 2 or 1
pub truth_keeps : Keeps <truth_default>? (λ i c. if_there i (cond (eqb (chosen 2 c) 0) 2 1))
unfolding rules entries node_entries
truth_keeps = assigned <truth_default>? <truth> class.«default» refl (λ i c es. refl) (λ p f. refl) truth
  where
    yes_word : (c : Trees) → Fits rules (t class.«TRUE» ∷ []) c → (g : Trees) → entries (node <truth> 0 c g) ≡ 2 ∷ entries g
    yes_word c (fits_leaf fits_nil) g = refl

    no_word : (c : Trees) → Fits rules (t class.«FALSE» ∷ []) c → (g : Trees) → entries (node <truth> 1 c g) ≡ 1 ∷ entries g
    no_word c (fits_leaf fits_nil) g = refl

    truth : Keeps <truth> (λ i c. cond (eqb i 0) 2 1)
    truth = either_way (Keeping <truth> (λ i c. cond (eqb i 0) 2 1)) refl yes_word no_word

-- ---- FL

-- rule A: a word by rule C and others by rule B
list_keeps :
    (A B C : ℕ) {e : Trees → ℕ} → get_or rules A [] ≡ one (r C ∷ r B ∷ []) → ((i : ℕ) (c : Trees) (es : List ℕ) → node_entries A i c es ≡ e c ∷ [])
    → Keeps A (λ i c. e c)
list_keeps A B C {e} q keeps = only_way (Keeping A (λ i c. e c)) q there
  where
    there : (c : Trees) → Fits rules (r C ∷ r B ∷ []) c → (g : Trees) → entries (node A 0 c g) ≡ e c ∷ entries g
    there c h g = entries_node A 0 g h ∙ rw (keeps 0 c (entries c))

fl_keeps : Keeps <fl> (λ i c. flags c)
unfolding rules node_entries
fl_keeps = list_keeps <fl> <flag>* <flag> refl (λ i c es. refl)

-- rule A: [`flags =` FL `,`], with FL by rule B; the flags in it are those of FL
flags_there :
    (A B : ℕ) → get_or rules A [] ≡ optional (t class.«flags» ∷ t class.«=» ∷ r B ∷ t comma ∷ [])
    → (i : ℕ) (a : Alternative) (c : Trees) → alternative_of rules A i ≡ some a → Fits rules a.symbols c → if_there i (flags (child 2 c)) ≡ flags c
flags_there A B q = either_way (λ i c. if_there i (flags (child 2 c)) ≡ flags c) q absent there
  where
    absent : (c : Trees) → Fits rules [] c → 0 ≡ flags c
    absent c fits_nil = refl

    there : (c : Trees) → Fits rules (t class.«flags» ∷ t class.«=» ∷ r B ∷ t comma ∷ []) c → flags (child 2 c) ≡ flags c
    there c (fits_leaf (fits_leaf (fits_node {c = n} e h (fits_leaf {p = p} fits_nil)))) =
        sym (flags_between (class.«flags» ∷ class.«=» ∷ []) n (token comma p ∷ []) refl refl)

pub flags_keeps : Keeps <flags>? (λ i c. flags c)
unfolding rules entries node_entries
flags_keeps i a c e h g =
    assigned <flags>? <fl> class.«flags» refl (λ i c es. refl) (λ p f. refl) fl_keeps i a c e h g
    ∙ ap (λ n. n ∷ entries g) (flags_there <flags>? <fl> refl i a c e h)

-- of a goto: [`, flags =` FL]
pub goto_flags_keeps : Keeps <goto_flags>? (λ i c. flags c)
unfolding rules entries node_entries
goto_flags_keeps = either_way (Keeping <goto_flags>? (λ i c. flags c)) refl absent there
  where
    absent : (c : Trees) → Fits rules [] c → (g : Trees) → entries (node <goto_flags>? 0 c g) ≡ flags c ∷ entries g
    absent c fits_nil g = refl

    there :
        (c : Trees) → Fits rules (t comma ∷ t class.«flags» ∷ t class.«=» ∷ r <fl> ∷ []) c → (g : Trees)
        → entries (node <goto_flags>? 1 c g) ≡ flags c ∷ entries g
    there c (fits_leaf (fits_leaf (fits_leaf (fits_node {i = i} {c = n} e h fits_nil)))) g =
        rw (fl_keeps i _ n e h nil) (ap (λ n. n ∷ entries g) (sym (flags_between (comma ∷ class.«flags» ∷ class.«=» ∷ []) n [] refl refl)))

-- ---- a numeric's FL

-- its flags, and 256 times its size and display
abbrev pub numeric_entry : Trees → ℕ
numeric_entry c = flags c + 256 * size_and_display (size_in c) (display_in c)

numeric_fl_keeps : Keeps <numeric_fl> (λ i c. numeric_entry c)
unfolding rules node_entries
numeric_fl_keeps = list_keeps <numeric_fl> <numeric_flag>* <numeric_flag> refl (λ i c es. refl)

-- [`flags =` FL `,`]: what is said of words in FL holds of the whole part
module _ (n : Trees) (p : ℕ) where
  abbrev part_classes : List ℕ
  part_classes = class.«flags» ∷ class.«=» ∷ map class_of (leaves n ++ token comma p ∷ [])

  first_in_part :
      (ws : List FlagWord) (other : ℕ)
      → none_of ws (class.«flags» ∷ class.«=» ∷ []) ≡ true → none_of ws (comma ∷ []) ≡ true → first_of ws other part_classes ≡ first_of ws other (classes n)
  first_in_part ws other a b =
      ap (λ ks. first_of ws other (class.«flags» ∷ class.«=» ∷ ks)) (map-append class_of (leaves n) (token comma p ∷ []))
      ∙ first_between ws other (class.«flags» ∷ class.«=» ∷ []) (classes n) (comma ∷ []) a b

numeric_there :
    (i : ℕ) (a : Alternative) (c : Trees)
    → alternative_of rules <numeric_flags>? i ≡ some a → Fits rules a.symbols c → if_there i (numeric_entry (child 2 c)) ≡ if_there i (numeric_entry c)
unfolding rules
numeric_there = either_way (λ i c. if_there i (numeric_entry (child 2 c)) ≡ if_there i (numeric_entry c)) refl absent there
  where
    absent : (c : Trees) → Fits rules [] c → ◌≡◌ {A = ℕ} 0 0
    absent c h = refl

    there : (c : Trees) → Fits rules (t class.«flags» ∷ t class.«=» ∷ r <numeric_fl> ∷ t comma ∷ []) c → numeric_entry (child 2 c) ≡ numeric_entry c
    there c (fits_leaf (fits_leaf (fits_node {c = n} e h (fits_leaf {p = p} fits_nil)))) =
        rw (
          flags_between (class.«flags» ∷ class.«=» ∷ []) n (token comma p ∷ []) refl refl,
          first_in_part n p size_words NO_SIZE refl refl,
          first_in_part n p display_words UINT_DEC refl refl,
        )

pub numeric_flags_keeps : Keeps <numeric_flags>? (λ i c. if_there i (numeric_entry c))
unfolding rules entries node_entries
numeric_flags_keeps i a c e h g =
    assigned <numeric_flags>? <numeric_fl> class.«flags» refl (λ i c es. refl) (λ p f. refl) numeric_fl_keeps i a c e h g
    ∙ ap (λ n. n ∷ entries g) (numeric_there i a c e h)

-- ---- an option's flags, and what a questionref names

pub option_flags_keeps : Keeps <option_flags> (λ i c. if_there i (mark (place_at 0 c)))
unfolding rules entries node_entries
option_flags_keeps = either_way (Keeping <option_flags> (λ i c. if_there i (mark (place_at 0 c)))) refl zeroes word
  where
    zeroes : (c : Trees) → Fits rules (r <zero> ∷ []) c → (g : Trees) → entries (node <option_flags> 0 c g) ≡ 0 ∷ entries g
    zeroes c (fits_node e h fits_nil) g = refl

    word : (c : Trees) → Fits rules (t class.«DEFAULT» ∷ []) c → (g : Trees) → entries (node <option_flags> 1 c g) ≡ mark (place_at 0 c) ∷ entries g
    word c (fits_leaf fits_nil) g = refl

-- ---- HEAD

-- its four entries, in terms of the trees under it
pub head_keeps :
    (number_at_lem : ℕ → ℕ) (i : ℕ) (a : Alternative) (c : Trees)
    → alternative_of rules <head> i ≡ some a → Fits rules a.symbols c → (g : Trees)
    → entries (node <head> i c g) ≡ name_mark number_at_lem c ∷ written_mark number_at_lem c ∷ mark (place_at 0 (child 2 (child 4 c))) ∷ mark (place_at 0 (child 2 (child 8 c))) ∷ entries g
unfolding rules entries node_entries
head_keeps na = only_way (λ i c. (g : Trees) → entries (node <head> i c g) ≡ name_mark na c ∷ written_mark na c ∷ mark (place_at 0 (child 2 (child 4 c))) ∷ mark (place_at 0 (child 2 (child 8 c))) ∷ entries g) refl there
  where
    there :
        (c : Trees)
        → Fits rules (r <name>? ∷ r <questionid>? ∷ t class.«prompt» ∷ t class.«=» ∷ r <str> ∷ t comma ∷ t class.«help» ∷ t class.«=» ∷ r <str> ∷ []) c
        → (g : Trees)
        → entries (node <head> 0 c g) ≡ name_mark na c ∷ written_mark na c ∷ mark (place_at 0 (child 2 (child 4 c))) ∷ mark (place_at 0 (child 2 (child 8 c))) ∷ entries g
    there c (fits_node {i = i₀} {c = c₀} e₀ h₀ (fits_node {i = i₁} {c = c₁} e₁ h₁ (fits_leaf {p = p₂} (fits_leaf {p = p₃} (fits_node {i = i₄} {c = c₄} e₄ h₄ (fits_leaf {p = p₅} (fits_leaf {p = p₆} (fits_leaf {p = p₇} (fits_node {i = i₈} {c = c₈} e₈ h₈ fits_nil))))))))) g =
        let help = node <str> i₈ c₈ nil in
        let prompt = node <str> i₄ c₄ (leaf (token comma p₅) (leaf (token class.«help» p₆) (leaf (token class.«=» p₇) help))) in
        rw (name_keeps i₀ _ c₀ e₀ h₀ (node <questionid>? i₁ c₁ (leaf (token class.«prompt» p₂) (leaf (token class.«=» p₃) prompt))), questionid_keeps i₁ _ c₁ e₁ h₁ (leaf (token class.«prompt» p₂) (leaf (token class.«=» p₃) prompt)), str_keeps i₄ _ c₄ e₄ h₄ (leaf (token comma p₅) (leaf (token class.«help» p₆) (leaf (token class.«=» p₇) help))), str_keeps i₈ _ c₈ e₈ h₈ nil)
