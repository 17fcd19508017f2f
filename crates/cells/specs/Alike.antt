-- What `==` answers at slices of cells decides their equality.
use Rattle.std.proofs.Common.{◌≡◌, List, Some, None, Decides, sym, refl, ap, true≢false}
use Rattle.std.specs.Option.{option_eq}
use Rattle.std.specs.Ordering.{int_eq}
use Rattle.std.specs.Cmp.Lexicographic.{pointwise, pointwise_decides}
use Rattle.std.proofs.lemmas.Bool.Decides.{Decides-int_eq}
use Rattle.cells.specs.Rows.{CellOf}

option_eq-decides : (o p : CellOf) → Decides (option_eq int_eq o p) (o ≡ p)
option_eq-decides None None = (λ _. refl, λ _. refl)
option_eq-decides None (Some y) = (λ e. absurd (true≢false (sym e)), λ e. cc)
option_eq-decides (Some x) None = (λ e. absurd (true≢false (sym e)), λ e. cc)
option_eq-decides (Some x) (Some y) = (λ e. ap Some ((Decides-int_eq x y).0 e), λ e. let i : x ≡ y = cc in (Decides-int_eq x y).1 i)

pub cells_decide : (xs ys : List CellOf) → Decides (pointwise (option_eq int_eq) xs ys) (xs ≡ ys)
cells_decide xs ys = pointwise_decides {E = option_eq int_eq} option_eq-decides xs ys
