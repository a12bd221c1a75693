-- What a point leaves as it was.
use Rattle.std.proofs.Common.{◌≡◌, ℕ, true, false, ◌==◌, ⊎_elim, List, ◌∷◌, refl, ◌∙◌, arith, if◌then◌else◌}
use Rattle.std.specs.Prelude.{Option, Some, None, Bool, is_some, nat_lt, ◌||◌}
use Rattle.std.specs.Option.{option_or}
use Rattle.std.proofs.lemmas.Grind.{common_steps}
use Rattle.std.proofs.lemmas.Bool.{cases_Bool, cases_eq}
use Rattle.messages_certificates.specs.declared.nullification.Nullification.{Nullification}
use Rattle.voter_history.specs.Past.{Item, nullification}
use Rattle.voter_history.specs.Past as past
use Rattle.voter_rounds.specs.Laws.{put-fact}
use Rattle.voter_history.specs.Pasts.{put}
use Rattle.voter_history.specs.History.{Setup, enter, later}

-- of three, the first that is there
pub or-assoc : {A : Type 0} (a b c : Option A) → option_or (option_or a b) c ≡ option_or a (option_or b c)
or-assoc None b c = refl
or-assoc (Some x) b c = refl

-- what there is where there was something before, or there is one more
pub is_some-next : {A : Type 0} (b : Bool) (o : Option A) (x : A) → is_some (if b then option_or o (Some x) else o) ≡ (b || is_some o)
is_some-next true None x = refl
is_some-next true (Some y) x = refl
is_some-next false o x = refl

module _ {S D P G C : Type 0} where
  -- entering a view changes nothing but its moment and its deadlines
  pub enter-fact : {X : Type 0} (f : List (Item S D P G C) → X) → ((moment : ℕ) (l : List (Item S D P G C)) → f (past.entered moment ∷ l) ≡ f l)
      → ((leader certification : ℕ) (stall : Option ℕ) (l : List (Item S D P G C)) → f (past.armed leader certification stall ∷ l) ≡ f l)
      → (s : Setup S C) (c now view : ℕ) (t : ℕ → List (Item S D P G C)) (u : ℕ) → f (enter s c now view t u) ≡ f (t u)
  enter-fact f entered armed s c now view t u =
      let once = put-fact f (past.entered now) (entered now) view t u in
      let twice = put-fact f (past.armed (past.deadline now s.leader_timeout) (past.deadline now s.certification_timeout) (later now s.stall_timeout)) (armed _ _ _) view (put view (past.entered now) t) u in
      ⊎_elim (λ e. rw e (twice ∙ once)) (λ e. rw e refl) (cases_Bool (nat_lt c view))

  -- the nullification of each view, behind one more
  pub nullification-next : (s : Setup S C) (cur now next : ℕ) (c : Nullification S D P G C) (view : ℕ) (t : ℕ → List (Item S D P G C)) (kept reaching : ℕ → Option (Nullification S D P G C)) (u : ℕ)
      → kept u ≡ option_or (reaching u) (nullification (t u))
      → (if view == u then option_or (kept u) (Some c) else kept u) ≡ option_or (reaching u) (nullification (put view (past.nullified c) (enter s cur now next t) u))
  nullification-next s cur now next c view t kept reaching u before =
      let same = enter-fact nullification (λ m l. refl) (λ a b o l. refl) s cur now next t u in
      ⊎_elim
      (λ e. let here : (view == u) ≡ true = grind (arith, common_steps) in rw here (rw (same, before) (or-assoc (reaching u) (nullification (t u)) (Some c))))
      (λ ne. let apart : (view == u) ≡ false = grind (arith, common_steps) in rw apart (rw (same) before))
      (cases_eq view u)
