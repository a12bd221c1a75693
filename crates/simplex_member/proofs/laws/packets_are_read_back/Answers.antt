use Rattle.types_codec.specs.Codec.{bounded-IsCodec}
use Rattle.simplex_member.proofs.Spellings.{can-be-sent, read-back, recordable}
use Rattle.simplex_member.proofs.laws.packets_are_read_back.Goals as goal

pub returns : goal.returns
returns g c = record {
  exact = λ n. g.met.D.Digest.equal_is_same;
  read_back = λ n small. read-back g.D.PartialEq.eq g.D.Write.spelling g.S.Signature.Write.spelling g.S.Certificate.Write.spelling g.D.Read.reading g.S.Signature.Read.reading g.S.Certificate.Read.reading n
      g.D.Write.fits g.S.Signature.Write.fits g.S.Certificate.Write.fits (g.S.Certificate.Read.within n)
      (bounded-IsCodec (g.met.D.Read.one_spelling n small) (g.met.D.Digest.unbounded n)) (bounded-IsCodec (g.met.S.Signature.Read.one_spelling n small) (g.met.S.Signature.Signature.unbounded n)) (g.met.S.Certificate.Read.one_spelling n small);
  readable = λ n small. can-be-sent g.D.PartialEq.eq g.D.Write.spelling g.S.Signature.Write.spelling g.S.Certificate.Write.spelling g.D.Read.reading g.S.Signature.Read.reading g.S.Certificate.Read.reading n
      g.D.Write.fits g.S.Signature.Write.fits g.S.Certificate.Write.fits (g.S.Certificate.Read.within n)
      (bounded-IsCodec (g.met.D.Read.one_spelling n small) (g.met.D.Digest.unbounded n)) (bounded-IsCodec (g.met.S.Signature.Read.one_spelling n small) (g.met.S.Signature.Signature.unbounded n)) (g.met.S.Certificate.Read.one_spelling n small);
  recordable = λ n small. recordable g.D.PartialEq.eq g.D.Write.spelling g.S.Signature.Write.spelling g.S.Certificate.Write.spelling g.D.Read.reading g.S.Signature.Read.reading g.S.Certificate.Read.reading n
      g.D.Write.fits g.S.Signature.Write.fits g.S.Certificate.Write.fits (g.S.Certificate.Read.within n)
      (bounded-IsCodec (g.met.D.Read.one_spelling n small) (g.met.D.Digest.unbounded n)) (bounded-IsCodec (g.met.S.Signature.Read.one_spelling n small) (g.met.S.Signature.Signature.unbounded n)) (g.met.S.Certificate.Read.one_spelling n small);
}
