-- The worked examples, as one statement. Assumes nothing.
use Rattle.std.specs.Prelude.{◌≡◌, ℕ, ◌-◌, ◌^◌, Bool, true, false, List, [], ◌∷◌, replicate, negsuc, Some, None, Ok, Err, Float}
use Rattle.std.specs.Float.{binary64}
use Rattle.std.specs.Float.Ieee.{round}
use Rattle.cells.specs.declared.emit_to.EmitTo.TheVariants.{First}
use Rattle.cells.specs.Refusals.{refusal}
use Rattle.cells.specs.Rows.{CellOf}
use Rattle.group_by.specs.Ids.{group_id}
use Rattle.aggregates.specs.Means.{mean_kind}
use Rattle.order.specs.Orders.{linear, sorted, Order, start, opened, removed, emit_to}
use Rattle.order.specs.Skip.{fresh, told}
use Rattle.accumulators.specs.Aggregations.{Aggregation}
use Rattle.model.specs.Setups.{Settings, Setup}
use Rattle.model.specs.Machine.{Model, count, emits}
use Rattle.model.specs.Steps.{accepted, refused, reserved}

-- 0.8, rounded once
abbrev pub eight_tenths : Float
eight_tenths = round binary64 false 8 10

-- the ordering `Sorted` after a batch has opened four groups, whatever its rows
abbrev pub four_groups : List (List CellOf) → List ℕ → Order
four_groups keys places = opened (start sorted) keys places 4

abbrev pub setup : {S : Type 0} → Aggregation S → (List CellOf → Bool) → Settings → Setup S
setup a admitted st = record { settings = st; aggregation = a; admitted = admitted }

-- memory is refused in Partial mode, with no order declared and batches of four
pub record Refused {S : Type 0} (st : Settings) (m : Model S) : Type 0 where
  pub partial : st.partial ≡ true
  pub size : st.batch_size ≡ 4
  pub unordered : m.held.order.mode ≡ linear

-- of any settings, for what an accumulator computes and a table admits
pub record WorkedCases {S : Type 0} (a : Aggregation S) (admitted : List CellOf → Bool) : Type 0 where
  -- ---- group ids and their widths
  -- not masked, masked, masked: alone, and as the second of two
  pub id_alone : group_id (false ∷ true ∷ true ∷ []) 0 0 ≡ Ok (3, 8)
  pub id_second : group_id (false ∷ true ∷ true ∷ []) 1 1 ≡ Ok (11, 8)
  -- 64 masked marks have an id, and with a second set there are too many bits
  pub id_widest : group_id (replicate 64 true) 0 0 ≡ Ok (2 ^ 64 - 1, 64)
  pub id_too_wide : group_id (replicate 64 true) 0 1 ≡ Err (refusal 17 [])
  -- ---- `Sorted`: three of four groups are finished, and none is once they are gone
  pub prefix : (keys : List (List CellOf)) (places : List ℕ) → emit_to (four_groups keys places) ≡ Some (First 3)
  pub prefix_gone : (keys : List (List CellOf)) (places : List ℕ) → emit_to (removed (four_groups keys places) 3) ≡ None
  -- ---- the probe at ten rows: eight groups do not lie above 0.8 of them, nine do
  pub eight_group : (told (fresh 10 eight_tenths) 10 8).skips ≡ false
  pub nine_skip : (told (fresh 10 eight_tenths) 10 9).skips ≡ true
  -- ---- memory is refused: ten held groups send out eight, three send out three, and with one there is no way out
  pub ten_emit_eight : (st : Settings) (m : Model S) (h : Bool) → Refused st m → count m ≡ 10
      → ((reserved (setup a admitted st) m false h).answer ≡ accepted) × ((reserved (setup a admitted st) m false h).model ≡ emits (setup a admitted st) (First 8) m)
  pub three_emit_three : (st : Settings) (m : Model S) (h : Bool) → Refused st m → count m ≡ 3
      → ((reserved (setup a admitted st) m false h).answer ≡ accepted) × ((reserved (setup a admitted st) m false h).model ≡ emits (setup a admitted st) (First 3) m)
  pub one_is_refused : (st : Settings) (m : Model S) (h : Bool) → Refused st m → count m ≡ 1
      → ((reserved (setup a admitted st) m false h).answer ≡ refused (refusal 14 [])) × ((reserved (setup a admitted st) m false h).model ≡ m)
  -- ---- the mean of -3 and -4 is cut towards zero; `negsuc n` is -(n + 1)
  pub mean : mean_kind.result (mean_kind.join (mean_kind.own (Some (negsuc 2))) (mean_kind.own (Some (negsuc 3)))) ≡ Some (negsuc 2)
