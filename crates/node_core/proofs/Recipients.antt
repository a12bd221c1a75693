-- Who gets the payload of the view before the one that is entered.
use Rattle.std.proofs.Common.{◌≡◌, ◌≢◌, ◌∙◌, ◌<◌, ◌≤◌, ◌+◌, ◌-◌, ◌++◌, [], ◌∷◌, ℕ, zero, suc, Bool, true, false, List, ap, refl, sym, subst, arith, filter}
use Rattle.std.specs.Prelude.{◌==◌, ◌&&◌, nat_lt, not, Option, Some, None, if◌then◌else◌, option_map, unwrap_or}
use Rattle.std.specs.Ordering.{is_le, nat_cmp}
use Rattle.std.proofs.lemmas.Bool.{le-ltb, lt-ltb}
use Rattle.std.proofs.lemmas.Bool.Decides.{nat_tests}
use Rattle.std.specs.List.{range_with_len}
use Rattle.std.proofs.lemmas.List.Elements.{filter-append}
use Rattle.types_core.specs.declared.scheme.Scheme.{Ghosts}
use Rattle.types_core.specs.declared.proposal.Proposal.{Proposal}
use Rattle.voter_history.specs.Past.{forwardable_proposal}
use Rattle.voter_history.specs.History.{seen}
use Rattle.voter_history.specs.Leaders.{leader}
use Rattle.voter_rules.specs.declared.config.ForwardPolicy.{ForwardPolicy}
use Rattle.voter_rules.specs.declared.config.ForwardPolicy.TheVariants as policy
use Rattle.simplex_member.specs.Deeds.{Relays, RelaysTo, entered_deeds, entry_deeds, relay_deeds, recipients, silent}
use Rattle.simplex_member.specs.Layers.{current_of, voter_of}
use Rattle.simplex_member.specs.Packet.{Formats}
use Rattle.simplex_member.specs.Point.{Point, History}
use Rattle.simplex_member.specs.Setup.{Setup}
use Rattle.node_core.specs.Entering.{serves}

-- one number more
range_more : (a n : ℕ) → range_with_len a (suc n) ≡ range_with_len a n ++ (a + n) ∷ []
range_more a zero = let e : a ≡ a + 0 = omega arith in ap (λ (i : ℕ). i ∷ []) e
range_more a (suc n) = let e : (a + 1) + n ≡ a + suc n = omega arith in ap (λ (l : List ℕ). a ∷ l) (range_more (a + 1) n ∙ rw e refl)

-- of one number more those that pass
pub pick_more : (p : ℕ → Bool) (n : ℕ) → filter p (range_with_len 0 (n + 1)) ≡ filter p (range_with_len 0 n) ++ (if p n then n ∷ [] else [])
pick_more p n =
    let one : n + 1 ≡ suc n = omega arith in
    let last : 0 + n ≡ n = omega arith in
    rw one (ap (filter p) (range_more 0 n ∙ rw last refl) ∙ filter-append p (range_with_len 0 n) (n ∷ []))

-- those that pass one test of those that pass another are those that pass both
passes : (p : ℕ → Bool) (b : Bool) (x : ℕ) (l m : List ℕ) → filter p l ≡ m → filter p (if b then x ∷ l else l) ≡ (if b && p x then x ∷ m else m)
passes p true x l m is = ap (λ (k : List ℕ). if p x then x ∷ k else k) is
passes p false x l m is = is

both_pass : (p q : ℕ → Bool) (xs : List ℕ) → filter p (filter q xs) ≡ filter (λ i. q i && p i) xs
both_pass p q [] = refl
both_pass p q (x ∷ xs) = passes p (q x) x (filter q xs) (filter (λ i. q i && p i) xs) (both_pass p q xs)

-- by a policy those of the silent get it whom it lets have it
served : (forward : ForwardPolicy) (leader : Option ℕ) (xs : List ℕ) → recipients forward leader xs ≡ filter (serves forward leader) xs
served policy.Disabled leader xs = none xs
  where
    none : (ys : List ℕ) → [] ≡ filter (λ i. false) ys
    none [] = refl
    none (y ∷ ys) = none ys
served policy.SilentVoters leader xs = all xs
  where
    all : (ys : List ℕ) → ys ≡ filter (λ i. true) ys
    all [] = refl
    all (y ∷ ys) = ap (λ (l : List ℕ). y ∷ l) (all ys)
served policy.SilentLeader leader xs = refl

-- together
recipients_are : (forward : ForwardPolicy) (leader : Option ℕ) (me : ℕ) (missing : ℕ → Bool) (xs : List ℕ)
    → recipients forward leader (filter (λ i. not (i == me)) (filter missing xs)) ≡ filter (λ i. missing i && (not (i == me) && serves forward leader i)) xs
recipients_are forward leader me missing xs =
    served forward leader _ ∙ both_pass (serves forward leader) (λ i. not (i == me)) (filter missing xs)
    ∙ both_pass (λ i. not (i == me) && serves forward leader i) missing xs

-- once all members were looked at, those who were found to get it are the recipients
pub recipients_from : (forward : ForwardPolicy) (leader : Option ℕ) (me : ℕ) (missing : ℕ → Bool) (who : List ℕ) (seen size : ℕ)
    → who ≡ filter (λ i. missing i && (not (i == me) && serves forward leader i)) (range_with_len 0 seen) → seen ≡ size
    → who ≡ recipients forward leader (filter (λ i. not (i == me)) (filter missing (range_with_len 0 size)))
recipients_from forward leader me missing who seen size are all =
    are ∙ ap (λ (n : ℕ). filter (λ i. missing i && (not (i == me) && serves forward leader i)) (range_with_len 0 n)) all ∙ sym (recipients_are forward leader me missing (range_with_len 0 size))

-- one number lies above another
pub above_from : (a b : ℕ) → false ≡ is_le (nat_cmp a b) → b < a
above_from a b is = grind (arith, nat_tests, is)

-- a payload goes to those to whom it does, if to any
pub some_handed : {S D P G C : Type 0} (q : Proposal D) (who : List ℕ) → who ≢ [] → relay_deeds {S = S} {P = P} {G = G} {C = C} q who ≡ Relays q.payload (RelaysTo q.round who) ∷ []
some_handed q [] some = absurd (some refl)
some_handed q (i ∷ who) some = refl

module _ {S D P G C : Type 0} (g : Ghosts S D P G C) (f : Formats S D P G C) (s : Setup S D C) (h : History S D P G C) (p : Point S D P G C) where
  -- what is handed out where no view is entered: nothing
  pub not_entered : current_of s (p ∷ h) ≤ current_of s h → entered_deeds g f s h p ≡ []
  not_entered low =
      let is : nat_lt (current_of s h) (current_of s (p ∷ h)) ≡ false = le-ltb _ _ low in
      ap (λ (b : Bool). if b then entry_deeds g f s (p ∷ h) (current_of s (p ∷ h)) (current_of s (p ∷ h) - 1) else []) is

  -- and where one is: what its entry brings
  is_entered : current_of s h < current_of s (p ∷ h) → entered_deeds g f s h p ≡ entry_deeds g f s (p ∷ h) (current_of s (p ∷ h)) (current_of s (p ∷ h) - 1)
  is_entered high =
      let is : nat_lt (current_of s h) (current_of s (p ∷ h)) ≡ true = lt-ltb _ _ high in
      ap (λ (b : Bool). if b then entry_deeds g f s (p ∷ h) (current_of s (p ∷ h)) (current_of s (p ∷ h) - 1) else []) is

  -- nothing, where no payload of the view before may be forwarded
  pub nothing_held : current_of s h < current_of s (p ∷ h) → None ≡ forwardable_proposal (seen s.voter (voter_of s (p ∷ h)) (current_of s (p ∷ h) - 1)) → entered_deeds g f s h p ≡ []
  nothing_held high held =
      is_entered high ∙ ap (λ (o : Option (Proposal D)). unwrap_or (option_map (λ (q : Proposal D). relay_deeds q (recipients s.forward (leader s.voter (voter_of s (p ∷ h)) (current_of s (p ∷ h))) (silent g f s (p ∷ h) (current_of s (p ∷ h) - 1) q))) o) []) (sym held)

  -- and else it goes to these
  pub handed_on : (q : Proposal D) (who : List ℕ) → current_of s h < current_of s (p ∷ h) → Some q ≡ forwardable_proposal (seen s.voter (voter_of s (p ∷ h)) (current_of s (p ∷ h) - 1))
      → who ≡ recipients s.forward (leader s.voter (voter_of s (p ∷ h)) (current_of s (p ∷ h))) (silent g f s (p ∷ h) (current_of s (p ∷ h) - 1) q) → entered_deeds g f s h p ≡ relay_deeds q who
  handed_on q who high held are =
      is_entered high ∙ ap (λ (o : Option (Proposal D)). unwrap_or (option_map (λ (r : Proposal D). relay_deeds r (recipients s.forward (leader s.voter (voter_of s (p ∷ h)) (current_of s (p ∷ h))) (silent g f s (p ∷ h) (current_of s (p ∷ h) - 1) r))) o) []) (sym held)
      ∙ ap (relay_deeds q) (sym are)

  -- the same, as the numbers stand in the code
  pub handed_to : (q : Proposal D) (who : List ℕ) (entered before : ℕ) → entered ≡ current_of s (p ∷ h) → current_of s h < entered → before ≡ entered - 1 → Some q ≡ forwardable_proposal (seen s.voter (voter_of s (p ∷ h)) before)
      → who ≡ recipients s.forward (leader s.voter (voter_of s (p ∷ h)) entered) (silent g f s (p ∷ h) before q) → entered_deeds g f s h p ≡ relay_deeds q who
  handed_to q who entered before now high at held are =
      let below : before ≡ current_of s (p ∷ h) - 1 = at ∙ ap (λ (n : ℕ). n - 1) now in
      handed_on q who (subst (λ (n : ℕ). current_of s h < n) now high)
      (subst (λ (n : ℕ). Some q ≡ forwardable_proposal (seen s.voter (voter_of s (p ∷ h)) n)) below held)
      (subst (λ (n : ℕ). who ≡ recipients s.forward (leader s.voter (voter_of s (p ∷ h)) (current_of s (p ∷ h))) (silent g f s (p ∷ h) n q)) below
      (subst (λ (n : ℕ). who ≡ recipients s.forward (leader s.voter (voter_of s (p ∷ h)) n) (silent g f s (p ∷ h) before q)) now are))
