use Rattle.std.proofs.Common.{arith}
use Rattle.types_codec.specs.Codec.{bounded-IsCodec}
use Rattle.journal_single.specs.Refusals as journal
use Rattle.simplex_member.specs.Packet.{formats}
use Rattle.simplex_member.proofs.Keeping.{all-readable, left-readable}
use Rattle.simplex_member.proofs.Spellings.{all-on-disk}
use Rattle.simplex_member.proofs.laws.never_foreign.Goals as goal

pub returns : goal.returns
returns g c = record {
  readable = λ f s. all-readable g.S.Scheme f s;
  never = λ n most s lives all left image place led reads foreign. journal.never_foreign image left place
      (all-on-disk g.D.PartialEq.eq g.D.Write.spelling g.S.Signature.Write.spelling g.S.Certificate.Write.spelling g.D.Read.reading g.S.Signature.Read.reading g.S.Certificate.Read.reading n
      g.D.Write.fits g.S.Signature.Write.fits g.S.Certificate.Write.fits (g.S.Certificate.Read.within n)
      (bounded-IsCodec (g.met.D.Read.one_spelling n (omega (arith, most))) (g.met.D.Digest.unbounded n)) (bounded-IsCodec (g.met.S.Signature.Read.one_spelling n (omega (arith, most))) (g.met.S.Signature.Signature.unbounded n)) (g.met.S.Certificate.Read.one_spelling n (omega (arith, most)))
      (g.S.Certificate.Read.within 65535) (λ x within. g.met.S.Certificate.Read.grows n 65535 x most within) left
      (left-readable g.S.Scheme (formats g.D.PartialEq.eq g.D.Write.spelling g.S.Signature.Write.spelling g.S.Certificate.Write.spelling g.D.Read.reading g.S.Signature.Read.reading g.S.Certificate.Read.reading n) s lives all left led)) reads foreign;
  found = λ n most s lives all left found image led reads fits reads_found. c.a_disk_reads_as_one_record.ensures.messages image found left fits
      (all-on-disk g.D.PartialEq.eq g.D.Write.spelling g.S.Signature.Write.spelling g.S.Certificate.Write.spelling g.D.Read.reading g.S.Signature.Read.reading g.S.Certificate.Read.reading n
      g.D.Write.fits g.S.Signature.Write.fits g.S.Certificate.Write.fits (g.S.Certificate.Read.within n)
      (bounded-IsCodec (g.met.D.Read.one_spelling n (omega (arith, most))) (g.met.D.Digest.unbounded n)) (bounded-IsCodec (g.met.S.Signature.Read.one_spelling n (omega (arith, most))) (g.met.S.Signature.Signature.unbounded n)) (g.met.S.Certificate.Read.one_spelling n (omega (arith, most)))
      (g.S.Certificate.Read.within 65535) (λ x within. g.met.S.Certificate.Read.grows n 65535 x most within) left
      (left-readable g.S.Scheme (formats g.D.PartialEq.eq g.D.Write.spelling g.S.Signature.Write.spelling g.S.Certificate.Write.spelling g.D.Read.reading g.S.Signature.Read.reading g.S.Certificate.Read.reading n) s lives all left led)) reads_found reads;
}
