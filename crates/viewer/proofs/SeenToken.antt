-- Of what a `Seen` owns, what its token owns; and its token's machine value has its type. For the walks that return the token.
-- Assumes nothing.
use mathlib.Core.Path.{◌≡◌, subst}
use mathlib.Core.List.{List, [], ◌∷◌}
use lib.Dec.{T as Holds}
use seplogic.Ra.Ura.{Ura}
use mir.Val.{Val, WT, has_ty}
use base.Logic.{ent, id⊢}
use types.Logic.{Logic, sem}
use types.Kit.{‵, ◌⊛◌, given, ◌$◌, ◌∵◌, !, qed, by, move, drop, use1, split, learn}
use denote.Laws.{Is}
use denote.Struct.Laws as LL
use denote.Struct.Rest.{all_own, field_own, rest, own_open, own_out}
use denote.Struct.Values.{Values}
use Rattle.viewer.specs.declared.Seen.{Seen}
use Rattle.viewer.specs.contracts.Seen as N
use Rattle.viewer.proofs.Seen.TheLaws as N'
use Rattle.viewer.specs.contracts.Positioned as S
use Rattle.viewer.proofs.Positioned.TheLaws as S'

module _ {M : Type 1} {𝓤 : Ura M} (𝓛 : Logic 𝓤) (r : Seen) where
  abbrev fields : Values (N.the_type).parts
  fields = (r.token, (r.at, (r.line, (r.column, tt))))

  pub token_own : ent 𝓤 (sem 𝓛 ((N.the_row).own_val r (N'.lowered r ∷ []))) (sem 𝓛 ((S.the_row).own_val r.token (S'.lowered r.token ∷ [])))
  token_own =
      qed 𝓛 (‵ ((N.the_row).own_val r (N'.lowered r ∷ [])) ∷ []) ∵
      use1 𝓛 (given (N'.lowered r ∷ [] ≡ N'.lowered r ∷ []) (‵ (all_own (N.the_type).parts N'.the_laws fields))) (own_open 𝓛 N.the_type N'.the_laws fields (N'.lowered r)) $ learn ! (λ _.
      use1 𝓛 (‵ (field_own (N.the_type).parts N'.the_laws 0 r.token) ⊛ ‵ (rest (N.the_type).parts N'.the_laws 0 fields)) (own_out 𝓛 (N.the_type).parts N'.the_laws 0 fields) $ split ! $
      move ! (1 ∷ []) $ drop ! $ by ! (id⊢ 𝓤 _))

  pub token_typed : (u : Val) → Is N.the_row r (u ∷ []) → Holds (has_ty S'.mir (S'.lowered r.token)) × WT (S'.lowered r.token)
  token_typed u is =
      (tt, ((LL.lawful N.the_type N'.the_laws 𝓛).typed r _ (subst (λ (vs : List Val). Is N.the_row r vs) (LL.tells N.the_type N'.the_laws r _ is) is)).0.1.0)
