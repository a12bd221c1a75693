-- What is to be asked for a view's proposal, and what is answered once it is.
use Rattle.std.proofs.Common.{◌≡◌, ◌≤◌, ℕ, List, sym, subst, arith}
use Rattle.std.specs.Prelude.{IsSome, Option}
use Rattle.types_core.specs.declared.proposal.Proposal.{Proposal}
use Rattle.types_core.specs.declared.scheme.Scheme.{Ghosts}
use Rattle.types_terms.specs.declared.elector.Elector as elector
use Rattle.simplex_resolver.specs.declared.ask.Kind.TheVariants as kind
use Rattle.voter_history.specs.Past.{MayPropose, MayVerify}
use Rattle.voter_history.specs.History.{Setup, Point, current, seen}
use Rattle.voter_history.specs.Known.{Known, known}
use Rattle.voter_history.specs.Leaders.{leader}
use Rattle.voter_rules.specs.Ancestry.{Member, member}
use Rattle.voter_rules.specs.Requests.{BuildIsDue, Scanned, VerifyIsDue}
use Rattle.simplex_state.specs.declared.state.State.{State}
use Rattle.simplex_state.specs.declared.verify.Verify.{Verify}
use Rattle.simplex_state.specs.declared.verify.Verify.TheVariants as verify
use Rattle.simplex_state.specs.declared.wanted.Wanted.{Wanted}
use Rattle.simplex_state.specs.declared.wanted.Wanted.TheVariants as wanted
use Rattle.simplex_state.specs.Resuming.{AnswersFrom, IsFrom, first_looked}
use Rattle.simplex_state.specs.Verifying.{Answers, Asks, IsWanted}

-- a view for whose proposal something is to be asked has a leader
pub wanted_led : {D : Type 0} (m : Member) (k : Known D) (view : ℕ) (x : Wanted D) → IsWanted m k view x → IsSome (k.leader view)
wanted_led m k view (wanted.Verification p payload) due = due.waits.led.0
wanted_led m k view (wanted.Certificate kind.Nullification u) is = is.1.waits.led.0
wanted_led m k view (wanted.Certificate kind.Notarization u) is = is.1.waits.led.0

module _ {S D P G C : Type 0} where
  -- what is due may be asked for
  pub may_verify : (s : Setup S C) (h : List (Point S D P G C)) (view : ℕ) (p : Proposal D) (payload : D) → VerifyIsDue (member s) (known s h) view p payload → MayVerify s.me (leader s h view) (seen s h view)
  may_verify s h view p payload due = record {
    another_leads = (due.waits.led.0, λ same. due.waits.led.1 (sym same));
    not_given_up = due.waits.opens.not_given_up;
    first = due.waits.first;
  }

  pub may_propose : (s : Setup S C) (h : List (Point S D P G C)) (view parent : ℕ) (payload : D) → BuildIsDue (member s) (known s h) view parent payload → MayPropose s.me (leader s h view) (seen s h view)
  may_propose s h view parent payload due = record {
    leads = (subst (λ (o : Option ℕ). IsSome o) (sym due.leads.known) due.leads.some, sym due.leads.known);
    not_given_up = due.opens.not_given_up;
    is_open = due.vacant;
  }

module _ {S L D P G C : Type 0} (g : Ghosts S D P G C) (e : elector.Ghosts L S D P G C) (s : Setup S C) (state : State S L D P G C) (now : ℕ) (h : List (Point S D P G C)) where
  -- behind a look what it came to is asked for
  pub answers_of : (from view : ℕ) (end : List (Point S D P G C)) (answer : Verify D P) → Scanned s now (first_looked s h from) h view end → Asks g e s state end view answer → AnswersFrom g e s state now h from answer
  answers_of from view end (verify.Ready context p) looked (at, asks) = record { end = end; looked = subst (λ (v : ℕ). Scanned s now (first_looked s h from) h v end) (sym at) looked; holds = asks }
  answers_of from view end (verify.Resolve proposal u what target) looked (at, asks) = record { end = end; looked = subst (λ (v : ℕ). Scanned s now (first_looked s h from) h v end) (sym at) looked; holds = asks }
  answers_of from view end verify.Wait looked never = absurd never

  at_current : (view : ℕ) (end : List (Point S D P G C)) → Scanned s now (first_looked s h 0) h view end → Scanned s now (current s h) h view end
  at_current view end looked = let same : first_looked s h 0 ≡ current s h = omega arith in subst (λ (first : ℕ). Scanned s now first h view end) same looked

  -- a look from the first view on is one at all
  pub answers_whole : (answer : Verify D P) → AnswersFrom g e s state now h 0 answer → Answers g e s state now h answer
  answers_whole (verify.Ready context p) is = record { end = is.end; looked = at_current context.round.view is.end is.looked; holds = is.holds }
  answers_whole (verify.Resolve proposal view what target) is = record { end = is.end; looked = at_current proposal is.end is.looked; holds = is.holds }
  answers_whole verify.Wait (last, is) = (
    last,
    record {
      end = is.end;
      looked = at_current last is.end is.looked;
      holds = record { whole = is.holds.whole; idle = λ u. is.holds.idle u (omega arith); keeps = is.holds.keeps };
    },
  )

-- what is asked for a view from the first on is asked from there on
pub is_from : {D P : Type 0} (from view : ℕ) (answer : Verify D P) → from ≤ view → IsFrom view answer → IsFrom from answer
is_from from view (verify.Ready context p) at is = omega (arith, at, is)
is_from from view (verify.Resolve proposal u what target) at is = omega (arith, at, is)
is_from from view verify.Wait at is = tt
