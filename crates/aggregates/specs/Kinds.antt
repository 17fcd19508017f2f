-- What one kind of aggregate keeps of a group, and the laws of it. Assumes nothing.
use Rattle.std.specs.Prelude.{◌≡◌, ℕ, List, length, None}
use Rattle.cells.specs.Rows.{CellOf}

pub record Kind (S : Type 0) : Type 1 where
  -- what a group holds before its first row
  pub neutral : S
  -- the later state goes behind
  pub join : S → S → S
  -- the state of one row alone, by its argument
  pub own : CellOf → S
  -- holds of the states that code holds
  pub sound : S → Type 0
  -- a state as cells, and back
  pub shows : S → List CellOf
  pub reads : List CellOf → S
  pub result : S → CellOf
  -- how many cells a state has
  pub cells : ℕ

pub record LawfulKind {S : Type 0} (k : Kind S) : Type 0 where
  pub assoc : (a b c : S) → k.join (k.join a b) c ≡ k.join a (k.join b c)
  pub neutral_left : (a : S) → k.sound a → k.join k.neutral a ≡ a
  pub neutral_right : (a : S) → k.sound a → k.join a k.neutral ≡ a
  pub neutral_sound : k.sound k.neutral
  pub join_sound : (a b : S) → k.sound a → k.sound b → k.sound (k.join a b)
  pub own_sound : (c : CellOf) → k.sound (k.own c)
  -- a row without an argument changes nothing
  pub own_absent : k.own None ≡ k.neutral
  pub shows_length : (a : S) → length (k.shows a) ≡ k.cells
  pub reads_shows : (a : S) → k.sound a → k.reads (k.shows a) ≡ a
  pub reads_sound : (cs : List CellOf) → k.sound (k.reads cs)
