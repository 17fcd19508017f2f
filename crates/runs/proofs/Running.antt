-- A script's calls make one run, of which the law holds.
use Rattle.std.proofs.Common.{◌≡◌, ℕ, Bool, true, false, List, [], ◌∷◌, ◌++◌, map, length, ℤ, sym, refl, ap, ◌∙◌, subst, append_assoc, append-nil, arith}
use Rattle.std.proofs.lemmas.List.{length-map}
use Rattle.model.specs.Setups.{Setup, out_width}
use Rattle.model.specs.Machine.{Model, start}
use Rattle.model.specs.Steps as steps
use Rattle.model.specs.Steps.{Request, finish, closed}
use Rattle.model.specs.Runs.{Reservation}
use Rattle.runs.specs.Noted.{Noted, noted, event_of, LeadsNoting}
use Rattle.model.specs.Law.{Sensible}
use Rattle.model.proofs.Account.{LawfulAsks}
use Rattle.model.proofs.EveryRun.{law}
use Rattle.stream.specs.Calls.{Makes}
use Rattle.runs.specs.declared.script.Answer.{Answer}
use Rattle.runs.specs.declared.script.Answer.TheVariants.{Finished}
use Rattle.runs.specs.declared.script.Buffers.{Buffers}
use Rattle.runs.specs.declared.script.Call.{Call}
use Rattle.runs.specs.declared.script.Reply.{Reply}
use Rattle.runs.specs.declared.script.Script.{Script}
use Rattle.runs.specs.Scripts.{take_of, request_of, slices, call_slices, requests_of, slices_of, answer_of, tells, told, in_order, written, written_all}
use Rattle.runs.specs.Ran.{Walked, Ran}
use Rattle.runs.proofs.Noting.{leads_noting}
use Rattle.runs.proofs.Walking.{map-join}

abbrev Slices : Type 0
Slices = List ℤ × List ℕ

order_join : (new old : List Noted) → in_order (new ++ old) ≡ in_order old ++ in_order new
order_join [] old = sym (append-nil (in_order old))
order_join (e ∷ new) old = ap (λ (es : List Noted). es ++ e ∷ []) (order_join new old) ∙ append_assoc (in_order old) (in_order new) (e ∷ [])

written-join : (W : ℕ) (es fs : List Noted) (ss ts : List Slices) → length es ≡ length ss → written_all W (es ++ fs) (ss ++ ts) ≡ written_all W es ss ++ written_all W fs ts
written-join W [] fs [] ts e = refl
written-join W [] fs (s ∷ ss) ts e = absurd (omega arith)
written-join W (x ∷ es) fs [] ts e = absurd (omega arith)
written-join W (x ∷ es) fs (s ∷ ss) ts e = ap (λ (zs : List Slices). written W x.out s ∷ zs) (written-join W es fs ss ts (omega arith))

pub new_leads : {S R : Type 0} (u : Setup S) (w : Reservation R) (m : Model S) (r r₀ : R) → m ≡ start u → r ≡ r₀ → w.bytes r₀ ≡ 0 → w.granted r₀ ≡ true → LeadsNoting u w [] m r
new_leads {S} {R} u w m r r₀ is same empty granted = (is, ap (λ (x : R). w.bytes x) same ∙ empty, ap (λ (x : R). w.granted x) same ∙ granted)

pub told_finished : (reply : Reply) (bytes : ℕ) (granted : Bool) → reply.answer ≡ Finished → reply.bytes ≡ bytes → reply.granted ≡ granted → tells reply ≡ (closed, bytes, granted)
told_finished reply bytes granted answer b g =
    ap (λ (a : Answer). (answer_of a, reply.bytes, reply.granted)) answer ∙ ap (λ (x : ℕ). (closed, x, reply.granted)) b ∙ ap (λ (x : Bool). (closed, bytes, x)) g

module _ {S R : Type 0} (u : Setup S) (w : Reservation R) (sensible : Sensible u) (lawful : LawfulAsks w) (script script' : Script)
    (xs xs' : List Call) (rs : List Reply) (m : Model S) (r : R) (k : Walked u w [] (map request_of xs) (map call_slices xs) (map call_slices xs') [] (map tells rs) m r)
    (kept : map request_of xs' ≡ map request_of xs) where
  read_leads : LeadsNoting u w k.events m r
  read_leads = subst (λ (h : List Noted). LeadsNoting u w h m r) (append-nil k.events) k.leads

  -- finish is not called
  pub ran_reading : requests_of script ≡ map request_of xs → slices_of script ≡ map call_slices xs → requests_of script' ≡ map request_of xs' → slices_of script' ≡ map call_slices xs'
      → Ran u w script script' rs m r
  ran_reading asked before asked' after = record {
    history = k.events;
    leads = read_leads;
    requests_are = k.requests_are ∙ sym asked;
    replies_are = k.replies_are;
    slices-are = after ∙ k.slices-are ∙ ap (written_all (out_width u) (in_order k.events)) (sym before);
    requests_same = asked' ∙ kept ∙ sym asked;
    law = law u w sensible lawful (map event_of k.events) m r (leads_noting u w k.events m r read_leads);
  }

  module _ (m₂ : Model S) (r₂ : R) (closes : Makes u w m r finish closed [] m₂ r₂) (reads : m.closing ≡ false) (rs₂ : List Reply) (reply : Reply) (pushed : rs₂ ≡ rs ++ reply ∷ [])
      (tells-so : tells reply ≡ (closed, w.bytes r₂, w.granted r₂)) where
    pub closed-leads : LeadsNoting u w (noted finish closed [] (w.bytes r₂) (w.granted r₂) ∷ k.events) m₂ r₂
    closed-leads = (m, r, read_leads, reads, closes.comes, refl, refl)

    -- finish is called, and rows are taken
    pub ran_closing : (ys ys' : List Buffers) (rs₃ : List Reply) (m₃ : Model S) (r₃ : R)
        → Walked u w (noted finish closed [] (w.bytes r₂) (w.granted r₂) ∷ k.events) (map take_of ys) (map slices ys) (map slices ys') (map tells rs₂) (map tells rs₃) m₃ r₃
        → map take_of ys' ≡ map take_of ys
        → requests_of script ≡ map request_of xs ++ finish ∷ map take_of ys → slices_of script ≡ map call_slices xs ++ ([], []) ∷ map slices ys
        → requests_of script' ≡ map request_of xs' ++ finish ∷ map take_of ys' → slices_of script' ≡ map call_slices xs' ++ ([], []) ∷ map slices ys'
        → Ran u w script script' rs₃ m₃ r₃
    ran_closing ys ys' rs₃ m₃ r₃ l same asked before asked' after =
        let e : Noted = noted finish closed [] (w.bytes r₂) (w.granted r₂) in
        let W : ℕ = out_width u in
        let es = in_order k.events in
        let fs = in_order l.events in
        let all : in_order (l.events ++ e ∷ k.events) ≡ es ++ e ∷ fs = order_join l.events (e ∷ k.events) ∙ append_assoc es (e ∷ []) fs in
        let made : length es ≡ length (map call_slices xs) =
        omega (arith, length-map es (λ (y : Noted). y.request), ap length k.requests_are, length-map xs request_of, length-map xs call_slices) in
        record {
          history = l.events ++ e ∷ k.events;
          leads = l.leads;
          requests_are = ap (map (λ (y : Noted). y.request)) all
              ∙ map-join (λ (y : Noted). y.request) es (e ∷ fs)
              ∙ ap (λ (qs : List Request). qs ++ finish ∷ map (λ (y : Noted). y.request) fs) k.requests_are
              ∙ ap (λ (qs : List Request). map request_of xs ++ finish ∷ qs) l.requests_are
              ∙ sym asked;
          replies_are = l.replies_are
              ∙ ap (λ (zs : List Reply). map tells zs ++ map told fs) pushed
              ∙ ap (λ (ts : List (steps.Answer × ℕ × Bool)). ts ++ map told fs) (map-join tells rs (reply ∷ []))
              ∙ ap (λ (t : steps.Answer × ℕ × Bool). (map tells rs ++ t ∷ []) ++ map told fs) tells-so
              ∙ ap (λ (ts : List (steps.Answer × ℕ × Bool)). (ts ++ told e ∷ []) ++ map told fs) k.replies_are
              ∙ append_assoc (map told es) (told e ∷ []) (map told fs)
              ∙ sym (map-join told es (e ∷ fs))
              ∙ ap (map told) (sym all);
          slices-are = after
              ∙ ap (λ (ss : List Slices). ss ++ ([], []) ∷ map slices ys') k.slices-are
              ∙ ap (λ (ss : List Slices). written_all W es (map call_slices xs) ++ ([], []) ∷ ss) l.slices-are
              ∙ sym (written-join W es (e ∷ fs) (map call_slices xs) (([], []) ∷ map slices ys) made)
              ∙ ap (λ (ev : List Noted). written_all W ev (map call_slices xs ++ ([], []) ∷ map slices ys)) (sym all)
              ∙ ap (written_all W (in_order (l.events ++ e ∷ k.events))) (sym before);
          requests_same = asked'
              ∙ ap (λ (qs : List Request). qs ++ finish ∷ map take_of ys') kept
              ∙ ap (λ (qs : List Request). map request_of xs ++ finish ∷ qs) same
              ∙ sym asked;
          law = law u w sensible lawful (map event_of (l.events ++ e ∷ k.events)) m₃ r₃ (leads_noting u w (l.events ++ e ∷ k.events) m₃ r₃ l.leads);
        }
