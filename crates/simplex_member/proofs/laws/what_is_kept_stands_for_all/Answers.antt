use Rattle.simplex_member.proofs.Stands.{fits-kept, kept-lawful, kept-stands, kept-views}
use Rattle.simplex_member.proofs.laws.what_is_kept_stands_for_all.Goals as goal

pub returns : goal.returns
returns g c = record {
  stands = λ f s h all. kept-stands g.S.Scheme f s (λ views r x last. c.a_rewritten_record_is_lawful.ensures.same views r x last) h all;
  views = λ f s h all some. kept-views g.S.Scheme f s (λ views r x last. c.a_rewritten_record_is_lawful.ensures.same views r x last) c.what_is_known_is_recorded.ensures h all some;
  lawful = λ f s h all. kept-lawful g.S.Scheme f s (λ views r x last. c.a_rewritten_record_is_lawful.ensures.same views r x last) c.what_is_known_is_recorded.ensures c.records_obey.ensures
      (λ own owner r x some lawful there last. c.a_rewritten_record_is_lawful.ensures.lawful own owner r x some lawful there last) h all;
  fits = λ f s h p x all is. fits-kept g.S.Scheme f s (λ views r y last. c.a_rewritten_record_is_lawful.ensures.same views r y last) c.what_is_known_is_recorded.ensures h p x all is;
}
