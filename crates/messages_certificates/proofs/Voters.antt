-- The attestations of a list of votes.
use Rattle.std.proofs.Common.{◌≡◌, ◌≢◌, ℕ, zero, suc, refl, ◌<◌, List, [], ◌∷◌, length, get_or, map, arith, ◌∙◌, sym, ap, subst, ◌↔◌}
use Rattle.std.specs.List.{All, AllPairs, Contains}
use Rattle.std.proofs.lemmas.List.Elements.{All-map}
use Rattle.std.proofs.lemmas.List.{get_or-map, length-map}
use Rattle.types_core.specs.declared.attestation.Attestation.{Attestation}
use Rattle.types_core.specs.Quorum.{AreDistinct}
use Rattle.types_core.specs.Subject.{Statement}
use Rattle.messages_certificates.specs.Assembly.{CanAssemble, IsMadeOf}

module _ {V G : Type 0} (attestation : V → Attestation G) where
  -- votes of distinct signers have attestations of distinct signers
  pub map-AreDistinct : (votes : List V) → AllPairs (λ u v. (attestation u).signer ≢ (attestation v).signer) votes → AreDistinct (map attestation votes)
  map-AreDistinct [] apart i j d l m e = absurd (omega arith)
  map-AreDistinct (v ∷ votes) apart i j d l m e =
      let long : length (map attestation (v ∷ votes)) ≡ length (v ∷ votes) = length-map (v ∷ votes) attestation in
      let later : j < length (v ∷ votes) = omega (arith, long, m) in
      let first = get_or-map attestation (v ∷ votes) i v d (omega (arith, l, later)) in
      let second = get_or-map attestation (v ∷ votes) j v d later in
      apart i j v l later (ap (λ (a : Attestation G). a.signer) (sym first) ∙ e ∙ ap (λ (a : Attestation G). a.signer) second)

  -- and attestations of distinct signers are those of votes of distinct signers
  pub AreDistinct-map : (votes : List V) → AreDistinct (map attestation votes) → AllPairs (λ u v. (attestation u).signer ≢ (attestation v).signer) votes
  AreDistinct-map votes apart i j d l m e =
      let long : length (map attestation votes) ≡ length votes = length-map votes attestation in
      let first = get_or-map attestation votes i d (attestation d) (omega (arith, l, m)) in
      let second = get_or-map attestation votes j d (attestation d) m in
      apart i j (attestation d) l (omega (arith, long, m)) (ap (λ (a : Attestation G). a.signer) first ∙ e ∙ ap (λ (a : Attestation G). a.signer) (sym second))

  -- what holds of all attestations holds of each vote's
  pub All-of_map : (P : Attestation G → Type 0) (votes : List V) → All P (map attestation votes) → All (λ v. P (attestation v)) votes
  All-of_map P votes all k d l =
      let long : length (map attestation votes) ≡ length votes = length-map votes attestation in
      subst P (get_or-map attestation votes k d (attestation d) l) (all k (attestation d) (omega (arith, long, l)))

  -- the test of the attestations tells what votes a certificate can be made of, once they are on one content
  pub can-assemble : {X : Type 0} (content : V → X) (n : ℕ) (votes : List V) (one : (0 < length votes) × AllPairs (λ u v. content u ≡ content v) votes) (listed : List (Attestation G)) → listed ≡ map attestation votes
      → (Answer : Type 0) → Answer ↔ (AreDistinct listed × All (λ a. a.signer < n) listed) → Answer ↔ CanAssemble content attestation n votes
  can-assemble content n votes one listed is Answer exact =
      let IsMember : Attestation G → Type 0 = λ a. a.signer < n in
      let Distinct : List (Attestation G) → Type 0 = λ l. AreDistinct l in (
        λ yes. record {
          some = one.0;
          one_content = one.1;
          distinct = AreDistinct-map votes (subst Distinct is (exact.0 yes).0);
          members = All-of_map IsMember votes (subst (All IsMember) is (exact.0 yes).1);
        },
        λ can. exact.1 (subst Distinct (sym is) (map-AreDistinct votes can.distinct), subst (All IsMember) (sym is) (All-map IsMember attestation votes can.members)),
      )

-- what is the same for each two of a list is the same for each and the first
pub alike-first : {V Y : Type 0} (f : V → Y) (votes : List V) → AllPairs (λ u v. f u ≡ f v) votes → (k : ℕ) (d e : V) → k < length votes → f (get_or votes k d) ≡ f (get_or votes 0 e)
alike-first f [] alike k d e l = absurd (omega arith)
alike-first f (v ∷ votes) alike zero d e l = refl
alike-first f (v ∷ votes) alike (suc k) d e l = sym (alike 0 (suc k) d (omega arith) l)

module _ {V X G D C : Type 0} (content : V → X) (attestation : V → Attestation G) (states : X → Statement D) (attests : ℕ → Statement D → G → Type 0) (certifies : Statement D → C → Type 0) (lists : C → List (Attestation G)) (Enumerates : Type 0) where
  -- what a scheme assembles of the votes' attestations is made of the votes
  pub made-from : (n : ℕ) (votes : List V) → CanAssemble content attestation n votes → (first : V) (x : X) → x ≡ content (get_or votes 0 first)
      → (listed : List (Attestation G)) → listed ≡ map attestation votes → (made : C)
      → ((y : Statement D) → All (λ a. attests a.signer y a.signature) listed → certifies y made)
      → ((a : Attestation G) → Contains (lists made) a → Contains listed a)
      → (Enumerates → (a : Attestation G) → Contains listed a → Contains (lists made) a)
      → IsMadeOf content attestation states attests certifies lists Enumerates votes x made
  made-from n votes can first x x-is listed listed-is made certify given given_all =
      let same : (k : ℕ) (d : V) → k < length votes → content (get_or votes k d) ≡ x = λ k d l. alike-first content votes can.one_content k d first l ∙ sym x-is in
      let IsAll : List (Attestation G) → Type 0 = λ attestations. Enumerates → (a : Attestation G) → Contains attestations a → Contains (lists made) a in
      let Attests : Attestation G → Type 0 = λ a. attests a.signer (states x) a.signature in
      record {
        content_is = same;
        does_certify = λ all.
            let each : All (λ v. Attests (attestation v)) votes = λ k d l.
            subst (λ (y : X). attests (attestation (get_or votes k d)).signer (states y) (attestation (get_or votes k d)).signature) (same k d l) (all k d l) in
            certify (states x) (subst (All Attests) (sym listed-is) (All-map Attests attestation votes each));
        only_given = λ a there.
            let IsThere : List (Attestation G) → Type 0 = λ attestations. Contains attestations a in
            subst IsThere listed-is (given a there);
        all_given = subst IsAll listed-is given_all;
      }
