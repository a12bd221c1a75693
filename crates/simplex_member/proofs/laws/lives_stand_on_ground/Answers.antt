use Rattle.std.proofs.Common.{◌≡◌, ◌≢◌, ⊎_elim, ℕ, ◌==◌, ◌++◌, Some, ap, subst, sym, ◌∙◌, arith}
use Rattle.std.proofs.lemmas.Bool.{cases_Bool, eqb-true}
use Rattle.simplex_record.specs.Chain.{MayFollowOnGround, StandsOnGround}
use Rattle.simplex_record.specs.Record.{entries, entry}
use Rattle.voter_history.specs.History.{scheduled_leader}
use Rattle.simplex_member.specs.Recorded.{fresh_of, record_of, recorded_by}
use Rattle.simplex_member.proofs.Allowing.{begun-allowed}
use Rattle.simplex_member.proofs.Alone.{alone-stands, lives-alone, next-stands}
use Rattle.simplex_member.proofs.Chaining.{entries-within, follows-more, lives-ground}
use Rattle.simplex_member.proofs.Grounding.{Stands, stands}
use Rattle.simplex_member.proofs.Lists.{if-some, same-number}
use Rattle.simplex_member.proofs.Telling.{apart}
use Rattle.simplex_member.proofs.Sameness.{ground-by}
use Rattle.simplex_member.proofs.Walking.{among-goes, ever-at, lived-among}
use Rattle.simplex_member.proofs.laws.lives_stand_on_ground.Goals as goal

pub returns : goal.returns
returns g c = record {
  left = λ f exact m i all lived.
      let s = m.setup i in
      let size : ℕ = g.S.Scheme.size s.voter.scheme in
      ⊎_elim
      (λ e.
      let one = eqb-true size 1 e in
      subst (λ (n : ℕ). StandsOnGround n s.voter.length (scheduled_leader s.voter) s.me (entries all)) (sym one)
      (alone-stands s.voter.length (scheduled_leader s.voter) s.me (entries all)
      (lives-alone g.S.Scheme f s c.what_is_known_is_recorded.ensures c.a_lone_member_stands_on_ground.ensures.notarize c.a_lone_member_stands_on_ground.ensures.verdict (c.rounds_obey.ensures f exact) lived.me one (omega (arith, lived.member, one))
      (λ x certificate certifies. g.met.S.Listing.backed s.voter.scheme x certificate certifies) (m.lives i) all lived.left lived.lives)))
      (λ more. lives-ground g.S.Scheme f s c.what_is_known_is_recorded.ensures c.what_is_due_stands_on_ground.ensures.verdict c.what_is_due_stands_on_ground.ensures.notarize
      (λ n views by member before e is may. c.records_stand_on_ground.ensures.further n views by member before e is may) (λ one. apart (sym more ∙ same-number size 1 one)) (c.rounds_obey.ensures f exact) lived.me (m.lives i) all lived.left lived.lives
      (c.records_stand_on_ground.ensures.first size s.voter.length (scheduled_leader s.voter) s.me))
      (cases_Bool (size == 1));
  next = λ f exact m i all life h p x lived at a begun is.
      let s = m.setup i in
      let size : ℕ = g.S.Scheme.size s.voter.scheme in
      ⊎_elim
      (λ e.
      let one = eqb-true size 1 e in
      let next = next-stands g.S.Scheme f s c.what_is_known_is_recorded.ensures c.a_lone_member_stands_on_ground.ensures.notarize c.a_lone_member_stands_on_ground.ensures.verdict (c.rounds_obey.ensures f exact) lived.me one (omega (arith, lived.member, one))
      (λ y certificate certifies. g.met.S.Listing.backed s.voter.scheme y certificate certifies) all lived.left (m.lives i) lived.lives life at.among at.before at.behind at.split h at.is begun p a in (
        next.0,
        next.1,
        subst (λ (n : ℕ). MayFollowOnGround n s.voter.length (scheduled_leader s.voter) s.me (entries next.0) (entry x)) (sym one)
            (if-some (λ y. MayFollowOnGround 1 s.voter.length (scheduled_leader s.voter) s.me (entries next.0) (entry y)) (recorded_by p) x next.2 is),
      ))
      (λ more.
      let t = life.setup in
      let w = lived-among g.S.Scheme f s (m.lives i) all lived.left life lived.lives at.among in
      let own = w.own in
      let other : g.S.Scheme.size t.voter.scheme ≢ 1 = λ one. apart (sym more ∙ same-number size 1 (sym (ap g.S.Scheme.size own.scheme) ∙ one)) in
      let by : t.voter.me ≡ Some t.me = own.voter_me ∙ (lived.me ∙ ap (λ (n : ℕ). Some n) (sym own.me)) in
      let ever = w.ever ++ (life.founded ++ fresh_of h) in
      let ever_is = ever-at g.S.Scheme f s all life w at.before at.behind at.split h at.is in
      let on = ground-by g.S.Scheme s t own (λ n views leader k. MayFollowOnGround n views leader k (entries (record_of h)) (entry x))
      (if-some (Stands g.S.Scheme f t c.what_is_known_is_recorded.ensures c.what_is_due_stands_on_ground.ensures.verdict other c.what_is_due_stands_on_ground.ensures.notarize (c.rounds_obey.ensures f exact) by h) (recorded_by p) x
      (stands g.S.Scheme f t c.what_is_known_is_recorded.ensures c.what_is_due_stands_on_ground.ensures.verdict other c.what_is_due_stands_on_ground.ensures.notarize (c.rounds_obey.ensures f exact) by h
      (begun-allowed g.S.Scheme f t at.before h (among-goes g.S.Scheme f m i all lived.left lived.lives life h at)) p a begun) is) in
      (ever, ever_is, follows-more (entries (record_of h)) (entries ever) (entries-within (record_of h) ever ever_is.known) size s.voter.length (scheduled_leader s.voter) s.me (entry x) on))
      (cases_Bool (size == 1));
}
