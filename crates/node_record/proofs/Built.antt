-- What a record tells, built anew of its artifacts.
use Rattle.std.proofs.Common.{◌≡◌, ◌∙◌, ℕ, List, [], ◌∷◌, ◌++◌, refl, sym, ap, subst, append_assoc}
use Rattle.std.proofs.lemmas.List.{append-nil, map-append}
use Rattle.types_core.specs.Subject.{Statement}
use Rattle.messages_certificates.specs.declared.artifact.Artifact.{Artifact}
use Rattle.messages_certificates.specs.ProposalCertificate.{Finalization}
use Rattle.simplex_record.specs.declared.owner.Owner.{Owner}
use Rattle.simplex_record.specs.declared.standing.Standing.{Standing}
use Rattle.simplex_record.specs.CheckerState.{Keeps}
use Rattle.simplex_record.specs.Record.{Entry, entries, entry}
use Rattle.simplex_record.specs.Rules.{MayFollow}
use Rattle.simplex_record.specs.Lawful.{IsLawful, rewritten}
use Rattle.node_record.specs.declared.recorded.Recorded.{Recorded}
use Rattle.node_record.specs.Places.{KeepsPlaces}
use Rattle.node_record.specs.Recorded.{EachMayFollow, HoldsRecord}

module _ {S D P G C : Type 0} where
  -- what a rewrite leaves is the same of the same
  pub left-same : (views others : ℕ) (c : Finalization S D P G C) (xs ys : List (Artifact S D P G C)) → views ≡ others → xs ≡ ys → rewritten views c xs ≡ rewritten others c ys
  left-same views others c xs ys same is = ap (λ (n : ℕ). rewritten n c xs) same ∙ ap (λ (l : List (Artifact S D P G C)). rewritten others c l) is

  -- the artifacts of a lawful record may each stand behind those before it
  pub lawful-follow : (attests : ℕ → Statement D → G → Type 0) (certifies : Statement D → C → Type 0) (owner : Owner) (xs : List (Artifact S D P G C)) → IsLawful attests certifies owner xs → EachMayFollow owner.term_length xs
  lawful-follow attests certifies owner xs lawful before after x is = (lawful before after x is).follows

  -- a record is told by what is built of its artifacts
  pub rebuilt : (owner : Owner) (views : ℕ) (left : Recorded S D P G C) (ys : List (Artifact S D P G C)) → views ≡ owner.term_length → left.term_length ≡ views → left.artifacts.items ≡ ys → EachMayFollow owner.term_length ys
      → (EachMayFollow views left.artifacts.items → Keeps views left.standing (entries left.artifacts.items)) → KeepsPlaces left.places left.artifacts.items → HoldsRecord owner left ys
  rebuilt owner views left ys same length is each standing places =
      let here = subst (λ (n : ℕ). EachMayFollow n left.artifacts.items → Keeps n left.standing (entries left.artifacts.items)) same standing in
      let there = subst (λ (l : List (Artifact S D P G C)). EachMayFollow owner.term_length l → Keeps owner.term_length left.standing (entries l)) is here in
      record {
        length_is = length ∙ same;
        artifacts_are = is;
        standing = there each;
        places = subst (λ (l : List (Artifact S D P G C)). KeepsPlaces left.places l) is places;
      }

module _ {S D P G C : Type 0} (views : ℕ) (all : List (Artifact S D P G C)) where
  -- what is kept so far is what those tell that don't come yet, where each may stand behind those before it
  pub record IsBuilt (rest : List (Artifact S D P G C)) (standing : Standing D) : Type 0 where
    pub before : List (Artifact S D P G C)
    pub is : all ≡ before ++ rest
    pub keeps : EachMayFollow views all → Keeps views standing (entries before)

  pub built-first : (standing : Standing D) → Keeps views standing [] → IsBuilt all standing
  built-first standing keeps = record { before = []; is = refl; keeps = λ each. keeps }

  -- one artifact more
  pub built-next : (x : Artifact S D P G C) (rest : List (Artifact S D P G C)) (standing next : Standing D) → IsBuilt (x ∷ rest) standing
      → ((before : List (Entry D)) → Keeps views standing before → MayFollow views before (entry x) → Keeps views next (before ++ entry x ∷ [])) → IsBuilt rest next
  built-next x rest standing next so_far adds = record {
    before = so_far.before ++ x ∷ [];
    is = so_far.is ∙ sym (append_assoc so_far.before (x ∷ []) rest);
    keeps = λ each. subst (λ (es : List (Entry D)). Keeps views next es) (sym (map-append entry so_far.before (x ∷ [])))
        (adds (entries so_far.before) (so_far.keeps each) (each so_far.before rest x so_far.is));
  }

  -- and all of them
  pub built-all : (standing : Standing D) → IsBuilt [] standing → EachMayFollow views all → Keeps views standing (entries all)
  built-all standing so_far each =
      subst (λ (l : List (Artifact S D P G C)). Keeps views standing (entries l)) (sym (so_far.is ∙ append-nil so_far.before)) (so_far.keeps each)
