-- Calls made one after the other are a run that goes on.
use Rattle.std.proofs.Common.{◌≡◌, ℕ, ◌+◌, ◌<◌, Bool, false, List, [], ◌∷◌, ◌++◌, map, length, get_or, take, set, ℤ, sym, refl, ap, ◌∙◌, append_assoc, append-nil, arith, length-take}
use Rattle.std.proofs.lemmas.List.{length-map, map-set, set-get_or, get_or-map, take_more}
use Rattle.cells.specs.Rows.{CellOf}
use Rattle.model.specs.Setups.{Setup, out_width}
use Rattle.model.specs.Machine.{Model}
use Rattle.model.specs.Steps as steps
use Rattle.model.specs.Steps.{Request, Outcome}
use Rattle.model.specs.Runs.{Reservation, May}
use Rattle.runs.specs.Noted.{Noted, noted, LeadsNoting}
use Rattle.model.proofs.Closing.{offered-keeps, taken_keeps}
use Rattle.stream.specs.Streams.{Comes}
use Rattle.runs.specs.declared.script.Call.{Call}
use Rattle.runs.specs.declared.script.Call.TheVariants.{Offer, Take}
use Rattle.runs.specs.declared.script.Reply.{Reply}
use Rattle.runs.specs.Scripts.{request_of, answer_of, tells, told, in_order, written, written_all}
use Rattle.runs.specs.Ran.{Called, Walked}

abbrev Slices : Type 0
Slices = List ℤ × List ℕ

-- ---- lists

pub map-join : {A B : Type 0} (f : A → B) (xs ys : List A) → map f (xs ++ ys) ≡ map f xs ++ map f ys
map-join f [] ys = refl
map-join f (x ∷ xs) ys = ap (λ (zs : List _). f x ∷ zs) (map-join f xs ys)

-- the slices of a call that was not made are as they were
untouched : (W : ℕ) (es : List Noted) (ss : List Slices) (d : Slices) → length es < length ss → get_or (written_all W es ss) (length es) d ≡ get_or ss (length es) d
untouched W [] ss d l = refl
untouched W (e ∷ es) [] d l = refl
untouched W (e ∷ es) (s ∷ ss) d l = untouched W es ss d (omega arith)

written-more : (W : ℕ) (es : List Noted) (e : Noted) (ss : List Slices) (s : Slices) → length es < length ss → get_or ss (length es) s ≡ s
    → written_all W (es ++ e ∷ []) ss ≡ set (written_all W es ss) (length es) (written W e.out s)
written-more W [] e [] s l is = absurd (omega arith)
written-more W [] e (x ∷ ss) s l is = ap (λ (y : Slices). written W e.out y ∷ ss) is
written-more W (x ∷ es) e [] s l is = absurd (omega arith)
written-more W (x ∷ es) e (y ∷ ss) s l is = ap (λ (zs : List Slices). written W x.out y ∷ zs) (written-more W es e ss s (omega arith) is)

-- ---- one call more

module _ {X S R : Type 0} (req : X → Request) (sl : X → Slices) (u : Setup S) (w : Reservation R) (h : List Noted) where
  pub walked_none : (xs : List X) (rs : List Reply) (m : Model S) (r : R) → LeadsNoting u w h m r → Walked u w h (take 0 (map req xs)) (map sl xs) (map sl xs) (map tells rs) (map tells rs) m r
  walked_none xs rs m r led = record { events = []; leads = led; requests_are = refl; replies_are = sym (append-nil (map tells rs)); slices-are = refl }

  module _ (xs₀ xs : List X) (i : ℕ) (rs₀ rs : List Reply) (m : Model S) (r : R) (k : Walked u w h (take i (map req xs₀)) (map sl xs₀) (map sl xs) (map tells rs₀) (map tells rs) m r)
      (more : i < length xs) (same : map req xs ≡ map req xs₀) (x : X) (at : x ≡ get_or xs i x) where
    as_many : length xs ≡ length xs₀
    as_many = sym (length-map xs req) ∙ ap length same ∙ length-map xs₀ req

    made : length (in_order k.events) ≡ i
    made =
        omega (arith, length-map (in_order k.events) (λ (e : Noted). e.request), ap length k.requests_are, length-take i (map req xs₀), length-map xs₀ req, as_many, more)

    here : req x ≡ get_or (map req xs₀) i (req x)
    here = ap req at ∙ sym (get_or-map req xs i x (req x) more) ∙ ap (λ (qs : List Request). get_or qs i (req x)) same

    slices-here : get_or (map sl xs₀) (length (in_order k.events)) (sl x) ≡ sl x
    slices-here =
        sym (untouched (out_width u) (in_order k.events) (map sl xs₀) (sl x) (omega (arith, made, length-map xs₀ sl, as_many, more)))
        ∙ ap (λ (ss : List Slices). get_or ss (length (in_order k.events)) (sl x)) (sym k.slices-are)
        ∙ ap (λ (n : ℕ). get_or (map sl xs) n (sl x)) made
        ∙ get_or-map sl xs i x (sl x) more
        ∙ ap sl (sym at)

    pub walked_more : May m (req x) → (x' : X) (reply : Reply) (m' : Model S) (r' : R) → Called u w m r (req x) (sl x) (sl x') reply m' r'
        → (rs' : List Reply) → rs' ≡ rs ++ reply ∷ []
        → Walked u w h (take (i + 1) (map req xs₀)) (map sl xs₀) (map sl (set xs i x')) (map tells rs₀) (map tells rs') m' r'
    walked_more may x' reply m' r' called rs' pushed =
        let e : Noted = noted (req x) (answer_of reply.answer) called.out (w.bytes r') (w.granted r') in
        let reads : tells reply ≡ told e =
        ap (λ (b : ℕ). (answer_of reply.answer, b, reply.granted)) called.bytes_are ∙ ap (λ (b : Bool). (answer_of reply.answer, w.bytes r', b)) called.granted_are in
        record {
          events = e ∷ k.events;
          leads = (m, r, k.leads, may, called.makes.comes, refl, refl);
          requests_are = map-join (λ (y : Noted). y.request) (in_order k.events) (e ∷ [])
              ∙ ap (λ (qs : List Request). qs ++ req x ∷ []) k.requests_are
              ∙ ap (λ (q : Request). take i (map req xs₀) ++ q ∷ []) here
              ∙ sym (take_more (map req xs₀) i (req x) (omega (arith, length-map xs₀ req, as_many, more)));
          replies_are = ap (map tells) pushed
              ∙ map-join tells rs (reply ∷ [])
              ∙ ap (λ (ts : List (steps.Answer × ℕ × Bool)). ts ++ tells reply ∷ []) k.replies_are
              ∙ append_assoc (map tells rs₀) (map told (in_order k.events)) (tells reply ∷ [])
              ∙ ap (λ (t : steps.Answer × ℕ × Bool). map tells rs₀ ++ (map told (in_order k.events) ++ t ∷ [])) reads
              ∙ ap (λ (ts : List (steps.Answer × ℕ × Bool)). map tells rs₀ ++ ts) (sym (map-join told (in_order k.events) (e ∷ [])));
          slices-are = map-set sl xs i x'
              ∙ ap (λ (ss : List Slices). set ss i (sl x')) k.slices-are
              ∙ ap (λ (s : Slices). set (written_all (out_width u) (in_order k.events) (map sl xs₀)) i s) called.slices-are
              ∙ ap (λ (n : ℕ). set (written_all (out_width u) (in_order k.events) (map sl xs₀)) n (written (out_width u) called.out (sl x))) (sym made)
              ∙ sym (written-more (out_width u) (in_order k.events) e (map sl xs₀) (sl x) (omega (arith, made, length-map xs₀ sl, as_many, more)) slices-here);
        }

-- a call leaves the requests of the list as they were
pub requests_kept : {X : Type 0} (req : X → Request) (xs₀ xs : List X) (i : ℕ) (x x' : X) → i < length xs → x ≡ get_or xs i x → req x' ≡ req x → map req xs ≡ map req xs₀
    → map req (set xs i x') ≡ map req xs₀
requests_kept req xs₀ xs i x x' l at kept same =
    map-set req xs i x'
    ∙ ap (λ (q : Request). set (map req xs) i q) (kept ∙ ap req at ∙ sym (get_or-map req xs i x (req x) l))
    ∙ set-get_or (map req xs) i (req x)
    ∙ same

-- ---- a stream that reads

pub may_call : {S : Type 0} (m : Model S) (x : Call) → m.closing ≡ false → May m (request_of x)
may_call m (Offer b) reads = reads
may_call m (Take b) reads = tt

pub reads_on : {S R : Type 0} (u : Setup S) (w : Reservation R) (m : Model S) (r : R) (m' : Model S) (r' : R) (a : steps.Answer) (out : List (List CellOf)) (x : Call)
    → Comes w (steps.step u m (request_of x)) r m' r' a out → m'.closing ≡ m.closing
reads_on {S} u w m r m' r' a out (Offer b) (g, h, qs, is, asked) = sym (ap (λ (o : Outcome S). o.model.closing) is) ∙ offered-keeps u m _ _ g h
reads_on {S} u w m r m' r' a out (Take b) (g, h, qs, is, asked) = sym (ap (λ (o : Outcome S). o.model.closing) is) ∙ taken_keeps u m _ _ g
