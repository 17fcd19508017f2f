-- What is pushed onto a row that is cut at n cells goes onto all that was pushed before.
use Rattle.std.proofs.Common.{◌≡◌, ℕ, zero, suc, List, [], ◌∷◌, ◌++◌, take, refl, ap, ◌∙◌}

pub take_again : {X : Type 0} (n : ℕ) (xs ys : List X) → take n (take n xs ++ ys) ≡ take n (xs ++ ys)
take_again zero xs ys = refl
take_again (suc n) [] ys = refl
take_again {X} (suc n) (x ∷ xs) ys = ap (λ (zs : List X). x ∷ zs) (take_again n xs ys)

pub pushed : {X : Type 0} (n : ℕ) (all more row row' : List X) → row ≡ take n all → row' ≡ take n (row ++ more) → row' ≡ take n (all ++ more)
pushed {X} n all more row row' e h = h ∙ ap (λ (r : List X). take n (r ++ more)) e ∙ take_again n all more
