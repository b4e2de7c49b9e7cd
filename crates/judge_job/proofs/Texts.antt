-- A text that is written piece by piece, from its last piece on, is one from its first piece on.
use Rattle.std.proofs.Common.{ℕ, List, ◌++◌, sym, subst, append_assoc}

module _ (Is : List ℕ → Type 0) where
  pub of_3 : (a b c : List ℕ) → Is (a ++ (b ++ c)) → Is ((a ++ b) ++ c)
  of_3 a b c h = subst Is (sym (append_assoc a b c)) h

  pub of_4 : (a b c d : List ℕ) → Is (a ++ (b ++ (c ++ d))) → Is (((a ++ b) ++ c) ++ d)
  of_4 a b c d h = of_3 (a ++ b) c d (of_3 a b (c ++ d) h)

  pub of_5 : (a b c d e : List ℕ) → Is (a ++ (b ++ (c ++ (d ++ e)))) → Is ((((a ++ b) ++ c) ++ d) ++ e)
  of_5 a b c d e h = of_4 (a ++ b) c d e (of_3 a b (c ++ (d ++ e)) h)

  pub of_6 : (a b c d e f : List ℕ) → Is (a ++ (b ++ (c ++ (d ++ (e ++ f))))) → Is (((((a ++ b) ++ c) ++ d) ++ e) ++ f)
  of_6 a b c d e f h = of_5 (a ++ b) c d e f (of_3 a b (c ++ (d ++ (e ++ f))) h)
