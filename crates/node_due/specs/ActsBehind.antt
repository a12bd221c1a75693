-- Lemmas: points behind others.
use Rattle.std.proofs.Common.{◌≡◌, true, List, [], ◌∷◌, ◌++◌, sym, ◌∙◌, ap, subst, append_assoc}
use Rattle.std.proofs.lemmas.List.Elements.{All-append}
use Rattle.types_core.specs.declared.scheme.Scheme.{Ghosts}
use Rattle.simplex_member.specs.Deeds.{Deed, all_deeds, deeds_of}
use Rattle.simplex_member.specs.Member.{Goes}
use Rattle.simplex_member.specs.Packet.{Formats}
use Rattle.simplex_member.specs.Point.{Point, AreActs, History, is_act}
use Rattle.simplex_member.specs.Setup.{Setup}

module _ {S D P G C : Type 0} (g : Ghosts S D P G C) (f : Formats S D P G C) (s : Setup S D C) where
  pub goes_behind : (h mid end : History S D P G C) (xs ys : List (Point S D P G C)) → Goes g f s h xs mid → Goes g f s mid ys end → Goes g f s h (xs ++ ys) end
  goes_behind h mid end [] ys is goes = subst (λ (e : History S D P G C). Goes g f s e ys end) is goes
  goes_behind h mid end (x ∷ xs) ys one other = (one.0, goes_behind (x ∷ h) mid end xs ys one.1 other)

  -- what they hand out comes behind
  pub deeds_behind : (h mid : History S D P G C) (xs ys : List (Point S D P G C)) → Goes g f s h xs mid → all_deeds g f s h (xs ++ ys) ≡ all_deeds g f s h xs ++ all_deeds g f s mid ys
  deeds_behind h mid [] ys is = ap (λ (e : History S D P G C). all_deeds g f s e ys) (sym is)
  deeds_behind h mid (x ∷ xs) ys one =
      ap (λ (l : List (Deed S D P G C)). deeds_of g f s h x ++ l) (deeds_behind (x ∷ h) mid xs ys one.1)
      ∙ sym (append_assoc (deeds_of g f s h x) (all_deeds g f s (x ∷ h) xs) (all_deeds g f s mid ys))

  pub last_behind : (h mid : History S D P G C) (xs ys : List (Point S D P G C)) (last : List (Deed S D P G C)) → Goes g f s h xs mid → all_deeds g f s h (xs ++ ys) ++ last ≡ all_deeds g f s h xs ++ (all_deeds g f s mid ys ++ last)
  last_behind h mid xs ys last goes =
      ap (λ (l : List (Deed S D P G C)). l ++ last) (deeds_behind h mid xs ys goes) ∙ append_assoc (all_deeds g f s h xs) (all_deeds g f s mid ys) last

  pub are_acts : (xs ys : List (Point S D P G C)) → AreActs xs → AreActs ys → AreActs (xs ++ ys)
  are_acts xs ys one other = All-append (λ (p : Point S D P G C). is_act p ≡ true) xs ys one other
