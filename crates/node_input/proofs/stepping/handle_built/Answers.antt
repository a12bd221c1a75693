use Rattle.std.proofs.Common.{inl, inr, refl, sym, subst, None, Err, List, [], Option}
use Rattle.simplex_member.specs.declared.event.Event.TheVariants as event
use Rattle.simplex_member.specs.declared.refusal.Refusal.{Refusal}
use Rattle.simplex_member.specs.declared.refusal.Refusal.TheVariants as refusal
use Rattle.simplex_member.specs.Deeds.{AreActions}
use Rattle.simplex_member.specs.First.{IsFirst}
use Rattle.simplex_member.specs.Layers.{finalized_of}
use Rattle.simplex_member.specs.Packet.{formats}
use Rattle.simplex_member.specs.Recorded.{kept_of}
use Rattle.simplex_member.specs.Refusals.{tests}
use Rattle.simplex_member.specs.Setup.{owner_of}
use Rattle.node_input.proofs.Replying.{from-nothing, none-due, rest-reached, still-reached, stepped, turned-down}
use Rattle.node_input.proofs.stepping.handle_built.Goals as goal

pub returns-in_default-clause-handled : goal.returns-in_default-clause-handled
returns-in_default-clause-handled g c = λ s h k none.
    let f = formats {S = g.row.S.Denot} {P = g.row.S-PublicKey.Denot} g.D.PartialEq.eq g.D.Write.spelling g.S.Signature.Write.spelling g.S.Certificate.Write.spelling g.D.Read.reading g.S.Signature.Read.reading g.S.Certificate.Read.reading (g.S.Scheme.size s.voter.scheme) in
    record {
      ok = turned-down (event.Built c.args.number c.args.payload) c.args.out.now.items refusal.UnknownAnswer (inl (sym (c.in_default.ensures (finalized_of s h) h k.tables), refl)) (subst (λ (l : List _). AreActions f l []) (sym none) tt) k;
      any_moment = λ keeps. rest-reached g.S.Scheme f s h g.K.Disk _ _ (event.Built c.args.number c.args.payload) (c.a_ledger_at_rest_leaves_its_record.ensures (owner_of s) c.args.core.now.ledger (kept_of s.voter.length h) k.ledger keeps);
      without_memory = λ r first needs. refl;
    }

pub returns-in-Ok-clause-handled : goal.returns-in-Ok-clause-handled
returns-in-Ok-clause-handled g c = λ s h k none.
    let f = formats {S = g.row.S.Denot} {P = g.row.S-PublicKey.Denot} g.D.PartialEq.eq g.D.Write.spelling g.S.Signature.Write.spelling g.S.Certificate.Write.spelling g.D.Read.reading g.S.Signature.Read.reading g.S.Certificate.Read.reading (g.S.Scheme.size s.voter.scheme) in
    let stands = c.in-Some.ensures (finalized_of s h) h k.tables in
    let passes : IsFirst (tests g.S.Scheme f s h (event.Built c.args.number c.args.payload)) None = inr (λ none. absurd (cc (stands, none)), refl) in
    let t = c.in-Ok.ensures.taken s h k (sym stands) in
    record {
      ok = stepped (event.Built c.args.number c.args.payload) c.take_built.new.out.items passes t.is (from-nothing g.S.Scheme g.L.Elector g.K.Disk f s c.take_built.new.core h t.point c.args.out.now.items c.take_built.new.out.items none t.taken);
      any_moment = λ keeps. still-reached g.S.Scheme f s h g.K.Disk _ _ (event.Built c.args.number c.args.payload) c.in-Ok.ensures.book (c.a_ledger_at_rest_leaves_its_record.ensures (owner_of s) c.args.core.now.ledger (kept_of s.voter.length h) k.ledger keeps);
      without_memory = λ r first needs. refl;
    }

pub returns-in-Err-clause-handled : goal.returns-in-Err-clause-handled
returns-in-Err-clause-handled g c = λ s h k none.
    let f = formats {S = g.row.S.Denot} {P = g.row.S-PublicKey.Denot} g.D.PartialEq.eq g.D.Write.spelling g.S.Signature.Write.spelling g.S.Certificate.Write.spelling g.D.Read.reading g.S.Signature.Read.reading g.S.Certificate.Read.reading (g.S.Scheme.size s.voter.scheme) in
    let stands = c.in-Some.ensures (finalized_of s h) h k.tables in
    let passes : IsFirst (tests g.S.Scheme f s h (event.Built c.args.number c.args.payload)) None = inr (λ none. absurd (cc (stands, none)), refl) in
    record {
      ok = tt;
      any_moment = λ keeps. still-reached g.S.Scheme f s h g.K.Disk _ _ (event.Built c.args.number c.args.payload) c.in-Err.ensures.book (c.a_ledger_at_rest_leaves_its_record.ensures (owner_of s) c.args.core.now.ledger (kept_of s.voter.length h) k.ledger keeps);
      without_memory = none-due g.S.Scheme f s h (event.Built c.args.number c.args.payload) {A = Option Refusal} (Err c.in-Err.fault) passes;
    }
