-- A take into the slices of a call.
use Rattle.std.proofs.Common.{◌≡◌, ℕ, List, length, ℤ, Option, Result, sym, ap, ◌∙◌, subst}
use Rattle.accumulators.specs.declared.groups_accumulator.GroupsAccumulator as GroupsAccumulator
use Rattle.group_values.specs.declared.group_values.GroupValues as GroupValues
use Rattle.memory.specs.declared.reservation.MemoryReservation as MemoryReservation
use Rattle.model.specs.Setups.{out_width}
use Rattle.model.specs.Steps as steps
use Rattle.model.specs.Steps.{take}
use Rattle.stream.specs.declared.faults.TakeFault.{TakeFault}
use Rattle.stream.specs.Refusals.{take_answer}
use Rattle.stream.specs.Streams.{StreamOf, setup_in}
use Rattle.stream.specs.Calls.{Calls, out_rows, Takes}
use Rattle.runs.specs.declared.script.Reply.{Reply}
use Rattle.runs.specs.Scripts.{answer_of, written}
use Rattle.runs.specs.Ran.{CalledOn}

module _ {G A S R : Type 0} {table : GroupValues.Ghosts G} {accumulator : GroupsAccumulator.Ghosts A S} {memory : MemoryReservation.Ghosts R}
    (old new : StreamOf table accumulator memory) where
  called_here : (v : List ℤ) (f : List ℕ) (res : Result (Option ℕ) TakeFault) (xs : List ℤ) (ys : List ℕ) → Takes old v f res new xs ys
      → (reply : Reply) → answer_of reply.answer ≡ take_answer res → reply.bytes ≡ memory.bytes new.reservation → reply.granted ≡ memory.granted new.reservation
      → CalledOn old (take (length v) (length f)) (v, f) (xs, ys) reply new
  called_here v f res xs ys takes reply answers bytes granted =
      let out = out_rows old v f in
      let after = written (out_width (setup_in old)) out (v, f) in record {
        out = out;
        makes = subst (λ (a : steps.Answer). Calls old (take (length v) (length f)) a out new) (sym answers) takes.makes;
        bytes_are = bytes;
        granted_are = granted;
        slices-are = ap (λ (x : List ℤ). (x, ys)) takes.values_are ∙ ap (λ (y : List ℕ). (after.0, y)) takes.flags_are;
      }

  -- the slices are those of two vectors, before and after
  pub take-called : (v v₀ : List ℤ) (f f₀ : List ℕ) → v₀ ≡ v → f₀ ≡ f → (res : Result (Option ℕ) TakeFault) (xs xs₀ : List ℤ) (ys ys₀ : List ℕ) → xs ≡ xs₀ → ys ≡ ys₀
      → Takes old v₀ f₀ res new xs₀ ys₀ → (reply : Reply) → answer_of reply.answer ≡ take_answer res
      → (at : R) → at ≡ new.reservation → reply.bytes ≡ memory.bytes at → reply.granted ≡ memory.granted at → CalledOn old (take (length v) (length f)) (v, f) (xs, ys) reply new
  take-called v v₀ f f₀ values flags res xs xs₀ ys ys₀ values-after flags-after takes reply answers at there bytes granted =
      called_here v f res xs ys
      (subst (λ (x : List ℤ). Takes old v f res new x ys) (sym values-after)
      (subst (λ (y : List ℕ). Takes old v f res new xs₀ y) (sym flags-after)
      (subst (λ (x : List ℤ). Takes old x f res new xs₀ ys₀) values (subst (λ (y : List ℕ). Takes old v₀ y res new xs₀ ys₀) flags takes))))
      reply answers (bytes ∙ ap memory.bytes there) (granted ∙ ap memory.granted there)

pub takes_same : (a a' b b' : ℕ) → a ≡ a' → b ≡ b' → take a b ≡ take a' b'
takes_same a a' b b' p q = ap (λ (n : ℕ). take n b) p ∙ ap (take a') q
