-- What is left of the disks of a node that ran, and rewrote its record behind a whole input.
use Rattle.std.proofs.Common.{◌≡◌, inl, inr, List, [], ◌∷◌, ℕ, Bool, true, false, Option, None, Some, refl, sym, ap, ◌∙◌, subst}
use Rattle.std.specs.Prelude.{Result, Ok, Err, IfErr, MatchOption, OnOk, is_ok, ⊤}
use Rattle.types_core.specs.declared.scheme.Scheme.{Ghosts}
use Rattle.journal_single.specs.declared.disk.Disk as disk
use Rattle.journal_books.specs.declared.books.Books.{Books}
use Rattle.journal_books.specs.declared.books.Books.TheVariants as books
use Rattle.journal_books.specs.declared.disks.Disks.{Disks}
use Rattle.journal_books.specs.Books as words
use Rattle.journal_books.specs.Books.{Leave, MayBeRead, are_two, may_rewrite}
use Rattle.journal_books.specs.BooksLaws.{left_last}
use Rattle.simplex_member.specs.declared.action.Reply.{Reply}
use Rattle.simplex_member.specs.declared.event.Event.{Event}
use Rattle.simplex_member.specs.declared.fault.IoFault.{IoFault}
use Rattle.simplex_member.specs.declared.fault.NodeFault.{NodeFault}
use Rattle.simplex_member.specs.declared.refusal.Refusal.{Refusal}
use Rattle.simplex_member.specs.Member.{NoneDue, ReadsAsKept, Run, Takes}
use Rattle.simplex_member.specs.Packet.{Formats}
use Rattle.simplex_member.specs.Point.{History}
use Rattle.simplex_member.specs.Setup.{Setup}
use Rattle.node_core.specs.Rewriting.{IsLeftByRewrite}
use Rattle.simplex_cli.specs.declared.ending.Ending.{Ending}
use Rattle.simplex_cli.specs.declared.ending.Ending.TheVariants as ending
use Rattle.simplex_cli.specs.Serving.{EndsAs, IsLeftBehind}

-- a journal over one disk isn't rewritten
pub one_stays : {M K : Type 0} (b : Books M K) → are_two (words.disks_of b) ≡ false → may_rewrite b ≡ false
one_stays (books.One journal) one = refl
one_stays (books.Two pair) one = absurd (let bad : true ≡ false = one in cc)

-- how a program ends behind a whole input, by what the rewrite answered
pub ends_so : (done : ⊤) (r : Result ⊤ Ending) → IfErr r (λ why. (cause : NodeFault) × (why ≡ ending.Step cause)) → EndsAs (Ok done) true r
ends_so done (Ok x) steps = inl refl
ends_so done (Err why) (cause, is) = inr (cause, ap (λ (x : Ending). Err x) is)

pub ends_whole : (done : ⊤) (r : Result ⊤ Ending) → is_ok r ≡ true → EndsAs (Ok done) false r
ends_whole done (Ok x) whole = refl
ends_whole done (Err why) whole = absurd (let bad : false ≡ true = whole in cc)

-- a run to its input's end
abbrev whole_run : {A : Type 0} → A → Result A IoFault
whole_run done = Ok done

-- by both
pub ends_by : {A : Type 0} (io : Result A IoFault) (two : Bool) (r : Result A Ending) → EndsAs io true r → (two ≡ false → EndsAs io false r) → EndsAs io two r
ends_by (Err why) two r so one = so
ends_by (Ok done) true r so one = so
ends_by (Ok done) false r so one = one refl

module _ {S D P G C : Type 0} (g : Ghosts S D P G C) (f : Formats S D P G C) (s : Setup S D C) where
  -- nothing is due behind a step where nothing was before it
  rests : (Refused : Refusal → Type 0) (h mid : History S D P G C) (Taken : Type 0) (refused : Option Refusal) → (Taken → NoneDue g f s mid)
      → MatchOption refused Taken (λ why. (mid ≡ h) × Refused why) → NoneDue g f s h → NoneDue g f s mid
  rests Refused h mid Taken None takes step due = takes step
  rests Refused h mid Taken (Some why) takes step due = subst (λ (x : History S D P G C). NoneDue g f s x) (sym step.0) due

  -- nor behind a run
  pub none_due_behind : (events : List (Event D)) (replies : List (Reply S D P G C)) (h end : History S D P G C) → NoneDue g f s h → Run g f s h events replies end → NoneDue g f s end
  none_due_behind [] [] h end due is = subst (λ (x : History S D P G C). NoneDue g f s x) (sym is) due
  none_due_behind [] (reply ∷ replies) h end due run = absurd run
  none_due_behind (event ∷ events) [] h end due run = absurd run
  none_due_behind (event ∷ events) (reply ∷ replies) h end due (mid, step, run) =
      none_due_behind events replies mid end (rests _ h mid (Takes g f s h event reply.actions.items mid) reply.refused (λ takes. takes.rests.none_due) step.1 due) run

  module _ {K : Type 0} (k : disk.Ghosts K) where
    -- what is left, by what a node keeps that ran and that wasn't changed since, or by what a rewrite leaves
    pub left_of : {A : Type 0} (io : Result A IoFault) (ran finished left : Disks K) (end : History S D P G C) (read : List (List ℕ)) → left ≡ finished → are_two finished ≡ are_two ran
        → (are_two ran ≡ false → ReadsAsKept g f s read end) → IfErr io (λ _. ReadsAsKept g f s read end) → OnOk io (Leave k ran finished (IsLeftByRewrite g f s end))
        → MayBeRead k left read → IsLeftBehind g f s io (are_two left) end read
    left_of (Err why) ran finished left end read same many one kept leaves may = kept
    left_of (Ok done) ran finished left end read same many one kept leaves may = at (are_two left) refl
      where
        at : (two : Bool) → are_two left ≡ two → IsLeftBehind g f s (whole_run done) two end read
        at false is = one (sym many ∙ sym (ap are_two same) ∙ is)
        at true is = left_last k (IsLeftByRewrite g f s end) ran finished read leaves (subst (λ (on : Disks K). MayBeRead k on read) same may)
