use Rattle.std.proofs.Common.{ℕ, ◌+◌, List, subst}
use Rattle.std.proofs.lemmas.List.Elements.{All-contains_itself}
use Rattle.types_codec.specs.Codec.{bounded-IsCodec}
use Rattle.types_quorum.specs.Committee.{faults}
use Rattle.simplex_messages.specs.declared.activity.Activity.{Activity}
use Rattle.simplex_rules.specs.Accountability.{NamesAtLeast}
use Rattle.simplex_rules.specs.Audit.{IsVerdict}
use Rattle.simplex_member.specs.Deeds.{Deed}
use Rattle.simplex_member.specs.Lives.{HandedOut}
use Rattle.simplex_member.specs.Packet.{Formats, formats}
use Rattle.simplex_network.proofs.Naming.{none-named, some-member, verified}
use Rattle.simplex_network.proofs.Readable.{report-read}
use Rattle.simplex_network.proofs.Spelled.{of-deed, report-again, report-fits}
use Rattle.simplex_network.proofs.laws.accountability.Goals as goal

pub returns : goal.returns
returns g c = record {
  none_blocked = λ f exact back. c.none_is_blamed.ensures f exact back;
  none_named = λ f exact scheme m world w reports evidence told verdict x by correct.
      none-named g.S.Scheme f scheme m world w (c.reports_are_honest.ensures f exact) (c.own_votes_agree.ensures f) reports told g.D.Ord.cmp evidence verdict x by correct;
  read_to_the_end = λ scheme small m world w reports evidence fault told audit.
      let n = g.S.Scheme.size scheme in
      let f : Formats _ _ _ _ _ = formats g.D.PartialEq.eq g.D.Write.spelling g.S.Signature.Write.spelling g.S.Certificate.Write.spelling g.D.Read.reading g.S.Signature.Read.reading g.S.Certificate.Read.reading n in
      let read = c.joined_reports_are_read.ensures n reports audit.reports fault small
      (λ k d l.
      let by = told _ (All-contains_itself reports k d l) in
      report-fits g.D.PartialEq.eq g.D.Write.spelling g.S.Signature.Write.spelling g.S.Certificate.Write.spelling g.D.Read.reading g.S.Signature.Read.reading g.S.Certificate.Read.reading n
      g.D.Write.fits g.S.Signature.Write.fits g.S.Certificate.Write.fits (g.S.Certificate.Read.within n)
      (bounded-IsCodec (g.met.D.Read.one_spelling n small) (g.met.D.Digest.unbounded n)) (bounded-IsCodec (g.met.S.Signature.Read.one_spelling n small) (g.met.S.Signature.Signature.unbounded n)) (g.met.S.Certificate.Read.one_spelling n small)
      _ (report-read g.S.Scheme f scheme m world w (c.packets_are_read_back.ensures.read_back n small)
      (λ i correct x here. (c.packets_are_read_back.ensures.read_back n small).recorded x (c.never_foreign.ensures.readable f (m.setup i) (m.lives i) (world.recorded i) (w.lived i correct).0 (w.lived i correct).1 x here))
      (c.deeds_are_done.ensures f) (c.histories_of_lives_are_gone_to.ensures f)
      (c.deeds_are_of_their_points.ensures f) (c.accepted_votes_are_known.ensures f) by.0 by.1 _ by.2))
      audit.read in
      (read.1, subst (λ (rs : List (Activity _ _ _ _ _)). IsVerdict g.S.Scheme.lists (g.S.Scheme.attests scheme) g.D.Ord.cmp rs evidence) read.0 audit.verdict);
  in_grammar = λ n small scheme m world w i correct d out.
      let f : Formats _ _ _ _ _ = formats g.D.PartialEq.eq g.D.Write.spelling g.S.Signature.Write.spelling g.S.Certificate.Write.spelling g.D.Read.reading g.S.Signature.Read.reading g.S.Certificate.Read.reading n in
      let back = c.packets_are_read_back.ensures.read_back n small in
      of-deed g.S.Scheme f d (c.packets_are_in_grammar.ensures f back scheme m world w i correct d out)
      (λ a is.
      report-again g.D.PartialEq.eq g.D.Write.spelling g.S.Signature.Write.spelling g.S.Certificate.Write.spelling g.D.Read.reading g.S.Signature.Read.reading g.S.Certificate.Read.reading n
      g.D.Write.fits g.S.Signature.Write.fits g.S.Certificate.Write.fits (g.S.Certificate.Read.within n)
      (bounded-IsCodec (g.met.D.Read.one_spelling n small) (g.met.D.Digest.unbounded n)) (bounded-IsCodec (g.met.S.Signature.Read.one_spelling n small) (g.met.S.Signature.Signature.unbounded n)) (g.met.S.Certificate.Read.one_spelling n small)
      a (report-read g.S.Scheme f scheme m world w back
      (λ j at x here. back.recorded x (c.never_foreign.ensures.readable f (m.setup j) (m.lives j) (world.recorded j) (w.lived j at).0 (w.lived j at).1 x here))
      (c.deeds_are_done.ensures f) (c.histories_of_lives_are_gone_to.ensures f)
      (c.deeds_are_of_their_points.ensures f) (c.accepted_votes_are_known.ensures f) i correct a (subst (λ (x : Deed _ _ _ _ _). HandedOut g.S.Scheme f scheme m world i x) is out)));
  enough_named = λ f exact scheme m world w some reports evidence told verdict round contradicted.
      let named = c.a_contradicted_round_names_enough.ensures scheme reports evidence round some verdict contradicted in (
        named,
        λ i here correct.
            let by = named.accused i here in
            none-named g.S.Scheme f scheme m world w (c.reports_are_honest.ensures f exact) (c.own_votes_agree.ensures f) reports told g.D.Ord.cmp evidence verdict (record { round = round; signer = i; offence = by.0 }) by.1 correct,
      );
  reported_enough = λ f exact scheme m world w size reports evidence told verdict round contradicted.
      let certify = c.reported_certificates_certify.ensures f in
      let honest = c.reports_are_honest.ensures f exact in
      let agree = c.own_votes_agree.ensures f in
      let some = some-member g.S.Scheme f scheme m world w honest agree reports told g.D.Ord.cmp certify size round contradicted in
      let named = c.a_contradicted_round_names_enough.ensures scheme reports evidence round some verdict (verified g.S.Scheme f scheme m world w honest agree reports told g.D.Ord.cmp certify size round contradicted) in
      let all = subst (λ (n : ℕ). NamesAtLeast (faults n + 1) n evidence round) size named in (
        all,
        λ i here correct.
            let by = all.accused i here in
            none-named g.S.Scheme f scheme m world w honest agree reports told g.D.Ord.cmp evidence verdict (record { round = round; signer = i; offence = by.0 }) by.1 correct,
      );
}
