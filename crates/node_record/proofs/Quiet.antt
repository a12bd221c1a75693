-- What concerns neither requests nor asks nor the time leaves the tables where they stand.
use Rattle.std.proofs.Common.{◌≡◌, ◌∷◌, ℕ, true}
use Rattle.simplex_member.specs.Point.{Point, Opened, Found, Began, Told, Heard, Came, Wanted, Built, Checked, Judged, Leads, Forwards, Constructs, Latches, Polls, AsksBuild, AsksVerify, AsksCertify, GivesBack, LeavesBehind, PutsOff, Asks, Resolves, Votes, Repeats, Rewrote, History}
use Rattle.node_record.specs.declared.tables.Tables.{Tables}
use Rattle.node_record.specs.Tables.{KeepsTables, is_quiet}

module _ {S D P G C : Type 0} (low : ℕ) (tables : Tables S D P G C) (h : History S D P G C) where
  pub stays_quiet : (p : Point S D P G C) → is_quiet p ≡ true → KeepsTables low tables h → KeepsTables low tables (p ∷ h)
  stays_quiet (Opened now) quiet k = absurd (cc quiet)
  stays_quiet (Found x taken) quiet k = k
  stays_quiet Began quiet k = k
  stays_quiet (Told now) quiet k = absurd (cc quiet)
  stays_quiet (Heard v) quiet k = absurd (cc quiet)
  stays_quiet (Came c) quiet k = k
  stays_quiet (Wanted member view) quiet k = k
  stays_quiet (Built number handoff context payload took) quiet k = absurd (cc quiet)
  stays_quiet (Checked number view answer outcome) quiet k = absurd (cc quiet)
  stays_quiet (Judged r ok) quiet k = k
  stays_quiet (Leads view index) quiet k = k
  stays_quiet (Forwards view q) quiet k = k
  stays_quiet (Constructs view kind batch) quiet k = k
  stays_quiet (Latches view why) quiet k = k
  stays_quiet Polls quiet k = k
  stays_quiet (AsksBuild number handoff context) quiet k = absurd (cc quiet)
  stays_quiet (AsksVerify number context q) quiet k = absurd (cc quiet)
  stays_quiet (AsksCertify q) quiet k = absurd (cc quiet)
  stays_quiet (GivesBack number view) quiet k = absurd (cc quiet)
  stays_quiet (LeavesBehind number) quiet k = absurd (cc quiet)
  stays_quiet (PutsOff view) quiet k = k
  stays_quiet (Asks view ask to) quiet k = absurd (cc quiet)
  stays_quiet (Resolves view kind u) quiet k = k
  stays_quiet (Votes v) quiet k = k
  stays_quiet (Repeats v best) quiet k = absurd (cc quiet)
  stays_quiet (Rewrote c) quiet k = k
