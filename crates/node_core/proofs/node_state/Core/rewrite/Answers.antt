use Rattle.std.proofs.Common.{◌≡◌, ◌<◌, ℕ, refl, subst}
use Rattle.simplex_record.specs.declared.owner.Owner.{Owner}
use Rattle.journal_books.specs.BooksLaws.{leave_weaker}
use Rattle.simplex_member.specs.Layers.{finalized_of, voter_of}
use Rattle.simplex_member.specs.Packet.{formats}
use Rattle.simplex_member.specs.Point.{Rewrote}
use Rattle.simplex_member.specs.Recorded.{kept_of}
use Rattle.simplex_member.specs.Setup.{owner_of}
use Rattle.node_core.specs.Rewriting.{CoreIsRewritten}
use Rattle.node_core.proofs.Rewritten.{behind_rewrite, left_by_rewrite, told_floor}
use Rattle.node_core.proofs.node_state.Core.rewrite.Goals as goal

-- what a crash leaves, whatever was answered
pub returns-in-Ok-Some-clause-any_moment : goal.returns-in-Ok-Some-clause-any_moment
returns-in-Ok-Some-clause-any_moment g c = λ s h k none keeps.
    let f = formats {S = g.row.S.Denot} {P = g.row.S-PublicKey.Denot} g.D.PartialEq.eq g.D.Write.spelling g.S.Signature.Write.spelling g.S.Certificate.Write.spelling g.D.Read.reading g.S.Signature.Read.reading g.S.Certificate.Read.reading (g.S.Scheme.size s.voter.scheme) in
    let terms : 0 < s.voter.length = subst (λ (o : Owner). 0 < o.term_length) k.set_up.owner_is c.get-views.ensures.at_least_one in
    leave_weaker g.K.Disk _ _ (left_by_rewrite g.S.Scheme g.L.Elector g.K.Disk f s c.args.self.now h k terms (c.rewrites_leave_nothing_due.ensures f s) none) _ _ (c.rewrite.ensures.any_moment (owner_of s) (kept_of s.voter.length h) k.ledger keeps)

pub returns-in-Ok-None-clause-any_moment : goal.returns-in-Ok-None-clause-any_moment
returns-in-Ok-None-clause-any_moment g c = λ s h k none keeps.
    let f = formats {S = g.row.S.Denot} {P = g.row.S-PublicKey.Denot} g.D.PartialEq.eq g.D.Write.spelling g.S.Signature.Write.spelling g.S.Certificate.Write.spelling g.D.Read.reading g.S.Signature.Read.reading g.S.Certificate.Read.reading (g.S.Scheme.size s.voter.scheme) in
    let terms : 0 < s.voter.length = subst (λ (o : Owner). 0 < o.term_length) k.set_up.owner_is c.get-views.ensures.at_least_one in
    leave_weaker g.K.Disk _ _ (left_by_rewrite g.S.Scheme g.L.Elector g.K.Disk f s c.args.self.now h k terms (c.rewrites_leave_nothing_due.ensures f s) none) _ _ (c.rewrite.ensures.any_moment (owner_of s) (kept_of s.voter.length h) k.ledger keeps)

pub returns-in-Err-clause-any_moment : goal.returns-in-Err-clause-any_moment
returns-in-Err-clause-any_moment g c = λ s h k none keeps.
    let f = formats {S = g.row.S.Denot} {P = g.row.S-PublicKey.Denot} g.D.PartialEq.eq g.D.Write.spelling g.S.Signature.Write.spelling g.S.Certificate.Write.spelling g.D.Read.reading g.S.Signature.Read.reading g.S.Certificate.Read.reading (g.S.Scheme.size s.voter.scheme) in
    let terms : 0 < s.voter.length = subst (λ (o : Owner). 0 < o.term_length) k.set_up.owner_is c.get-views.ensures.at_least_one in
    leave_weaker g.K.Disk _ _ (left_by_rewrite g.S.Scheme g.L.Elector g.K.Disk f s c.args.self.now h k terms (c.rewrites_leave_nothing_due.ensures f s) none) _ _ (c.rewrite.ensures.any_moment (owner_of s) (kept_of s.voter.length h) k.ledger keeps)

-- a view was told
pub returns-in-Ok-Some-clause-rewritten : goal.returns-in-Ok-Some-clause-rewritten
returns-in-Ok-Some-clause-rewritten g c = λ floor is s h k.
    let f = formats {S = g.row.S.Denot} {P = g.row.S-PublicKey.Denot} g.D.PartialEq.eq g.D.Write.spelling g.S.Signature.Write.spelling g.S.Certificate.Write.spelling g.D.Read.reading g.S.Signature.Read.reading g.S.Certificate.Read.reading (g.S.Scheme.size s.voter.scheme) in
    let terms : 0 < s.voter.length = subst (λ (o : Owner). 0 < o.term_length) k.set_up.owner_is c.get-views.ensures.at_least_one in
    let told = told_floor _ (kept_of s.voter.length h) c.in-Ok-Some.view ((rw c.in-Ok-Some.field-0-is at c.in-Ok-Some.ensures.view) (owner_of s) (kept_of s.voter.length h) k.ledger) in
    let law = c.rewrites_leave_nothing_due.ensures f s in
    let lawful = c.what_is_kept_stands_for_all.ensures.lawful f s h k.allowed in
    let same : c.in-Ok-Some.view ≡ floor = cc is in
    subst (λ (view : ℕ). CoreIsRewritten g.S.Scheme g.L.Elector g.K.Disk f s (record c.args.self.now { voter = c.base.new.self; ledger = c.rewrite.new.self }) h view) same
    (behind_rewrite g.S.Scheme g.L.Elector g.K.Disk f s c.args.self.now h k terms law c.base.new.self c.rewrite.new.self c.in-Ok-Some.view c.silent_points_leave_votes.ensures.quiet
    (λ x next. c.in-Ok-Some.ensures.keeps s.voter.scheme (owner_of s) (kept_of s.voter.length h) x told.0 k.ledger lawful next)
    (c.base.ensures s.voter (voter_of s h) k.voter)
    (λ x. c.quiet_points_leave_the_tables.ensures (finalized_of s h) c.args.self.now.tables h (Rewrote x) refl k.tables)
    told.1.0 told.1.1 told.1.2)

pub returns-in-Ok-Some-clause-view : goal.returns-in-Ok-Some-clause-view
returns-in-Ok-Some-clause-view g c = λ s h k. (rw c.in-Ok-Some.field-0-is at c.in-Ok-Some.ensures.view) (owner_of s) (kept_of s.voter.length h) k.ledger

pub returns-in-Ok-Some-clause-none_if_it_begins_there : goal.returns-in-Ok-Some-clause-none_if_it_begins_there
returns-in-Ok-Some-clause-none_if_it_begins_there g c = λ s h k none. let is = c.in-Ok-Some.ensures.none_if_it_begins_there (owner_of s) (kept_of s.voter.length h) k.ledger none in absurd (cc is)

pub returns-in-Ok-None-clause-view : goal.returns-in-Ok-None-clause-view
returns-in-Ok-None-clause-view g c = λ s h k. (rw c.in-Ok-None.field-0-is at c.in-Ok-None.ensures.view) (owner_of s) (kept_of s.voter.length h) k.ledger

pub returns-in-Err-clause-none_if_it_begins_there : goal.returns-in-Err-clause-none_if_it_begins_there
returns-in-Err-clause-none_if_it_begins_there g c = λ s h k none. let is = c.in-Err.ensures.none_if_it_begins_there (owner_of s) (kept_of s.voter.length h) k.ledger none in absurd (cc is)
