-- What a voter asks for, to judge the proposals of others.
use Rattle.std.specs.Prelude.{◌≡◌, ◌⊎◌, ◌<◌, ◌∷◌, ℕ, Bool, true, false, List}
use Rattle.types_core.specs.declared.context.Context.{Context}
use Rattle.types_core.specs.declared.proposal.Proposal.{Proposal}
use Rattle.types_core.specs.declared.scheme.Scheme.{Ghosts}
use Rattle.types_terms.specs.declared.elector.Elector as elector
use Rattle.types_terms.specs.Windows.{AdmitsOutbound}
use Rattle.simplex_resolver.specs.declared.ask.Kind.{Kind}
use Rattle.voter_history.specs.declared.timeout_reason.TimeoutReason.TheVariants as reason
use Rattle.voter_history.specs.Past as past
use Rattle.voter_history.specs.History.{Setup, Point, ancestry_asked, current, latched, seen, verify_asked}
use Rattle.voter_history.specs.Known.{Known, known}
use Rattle.voter_rules.specs.Ancestry.{Member, member}
use Rattle.voter_rules.specs.Building.{IsKeyOfLeader}
use Rattle.voter_rules.specs.Requests.{AsksNothing, IsInvalid, IsPassed, Scanned, VerifyIsDue}
use Rattle.voter_laws.specs.Missing.{IsMissing}
use Rattle.simplex_state.specs.declared.state.State.{State}
use Rattle.simplex_state.specs.declared.verify.Verify.{Verify}
use Rattle.simplex_state.specs.declared.verify.Verify.TheVariants as verify
use Rattle.simplex_state.specs.declared.wanted.Wanted.{Wanted}
use Rattle.simplex_state.specs.declared.wanted.Wanted.TheVariants as wanted
use Rattle.simplex_state.specs.State.{Keeps}

module _ {D : Type 0} (m : Member) (k : Known D) (view : ℕ) where
  -- this is to be asked for the view's proposal
  abbrev pub IsWanted : Wanted D → Type 0
  IsWanted (wanted.Verification p payload) = VerifyIsDue m k view p payload
  IsWanted (wanted.Certificate what u) = IsMissing m k view what u

module _ {S D P G C : Type 0} where
  -- behind a look at the views from the current one on, which came to this view, this holds of where it led
  pub record BehindLook (s : Setup S C) (now : ℕ) (h : List (Point S D P G C)) (view : ℕ) (Q : List (Point S D P G C) → Type 0) : Type 0 where
    pub end : List (Point S D P G C)
    pub looked : Scanned s now (current s h) h view end
    pub holds : Q end

module _ {S L D P G C : Type 0} (g : Ghosts S D P G C) (e : elector.Ghosts L S D P G C) (s : Setup S C) (state : State S L D P G C) where
  -- the verification of this proposal, which was due, is asked for in this context, and the proposal is bound to its parent's payload
  pub record AsksVerification (h : List (Point S D P G C)) (context : Context D P) (p : Proposal D) : Type 0 where
    pub due : VerifyIsDue (member s) (known s h) context.round.view p context.parent.1
    pub parent : context.parent.0 ≡ p.parent
    pub epoch : context.round.epoch ≡ s.epoch
    pub leader : IsKeyOfLeader g s h context.round.view context.leader
    pub keeps : Keeps g e s state (verify_asked context.round.view p context.parent.1 ∷ h)

  -- the missing certificate of this kind and view is asked for, of the leader of the proposal's view
  pub record AsksCertificate (h : List (Point S D P G C)) (proposal view : ℕ) (what : Kind) (target : P) : Type 0 where
    pub missing : IsMissing (member s) (known s h) proposal what view
    pub leader : IsKeyOfLeader g s h proposal target
    pub keeps : Keeps g e s state (ancestry_asked proposal view ∷ h)

  -- a look that passed all views before this one passed all that may be spoken of: nothing is to be asked for any view
  pub record PassesAll (last : ℕ) (h : List (Point S D P G C)) : Type 0 where
    pub whole : (u : ℕ) → AdmitsOutbound s.length s.optimistic_views (current s h) u → u < last
    pub idle : (u : ℕ) → AsksNothing (member s) (known s h) u
    pub keeps : Keeps g e s state h

  -- its proposal can never stand: where that is the first reason to give the view up it is given up so, else nothing changes
  abbrev pub GivesUp : ℕ → List (Point S D P G C) → ℕ → Bool → Type 0
  GivesUp now h view true = Keeps g e s state (latched now view reason.InvalidProposal ∷ h)
  GivesUp now h view false = Keeps g e s state h

  -- the view was passed, since nothing is to be asked for it, or since its proposal can never stand
  abbrev pub Passes : ℕ → List (Point S D P G C) → ℕ → Type 0
  Passes now h view = (IsPassed (member s) (known s h) view × Keeps g e s state h)
      ⊎ (((p : Proposal D) × IsInvalid (member s) (known s h) view p) × GivesUp now h view (past.is_unlatched (seen s h view)))

  -- what was wanted for the view's proposal is asked for
  abbrev pub Asks : List (Point S D P G C) → ℕ → Verify D P → Type 0
  Asks h at (verify.Ready context p) = (context.round.view ≡ at) × AsksVerification h context p
  Asks h at (verify.Resolve proposal view what target) = (proposal ≡ at) × AsksCertificate h proposal view what target
  Asks h at verify.Wait = ⊥

  -- what is answered behind a look at the proposals that wait, from the current view on: of the lowest view for which something is
  -- to be asked that is asked; and where there is none, nothing is
  abbrev pub Answers : ℕ → List (Point S D P G C) → Verify D P → Type 0
  Answers now h (verify.Ready context p) = BehindLook s now h context.round.view (λ end. AsksVerification end context p)
  Answers now h (verify.Resolve proposal view what target) = BehindLook s now h proposal (λ end. AsksCertificate end proposal view what target)
  Answers now h verify.Wait = (last : ℕ) × BehindLook s now h last (PassesAll last)
