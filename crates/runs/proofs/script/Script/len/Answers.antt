use Rattle.std.proofs.Common.{◌≡◌, ◌+◌, map, length, vec_items, ap, arith, length-append}
use Rattle.std.proofs.lemmas.List.{length-map}
use Rattle.runs.specs.Scripts.{take_of, request_of, closing_requests, requests_of}
use Rattle.runs.proofs.script.Script.len.Goals as goal

pub returns-in-Some : goal.returns-in-Some
returns-in-Some c =
    let s = c.args.self.now in
    let takes = c.in-Some.takes in
    let all : length (requests_of s) ≡ length (map request_of (vec_items s.reading)) + length (closing_requests s.closing) = length-append (map request_of (vec_items s.reading)) (closing_requests s.closing) in
    let closing = ap (λ x. length (closing_requests x)) c.in-Some.is in
    omega (
      arith,
      all,
      closing,
      length-map (vec_items s.reading) request_of,
      length-map (vec_items takes) take_of,
      s.reading.ok.0,
      takes.ok.0,
      c.len.ensures,
      c.len-in-Some.ensures,
      c.saturating_add.ensures,
      c.saturating_add-in-Some.ensures,
    )

pub returns-in-None : goal.returns-in-None
returns-in-None c =
    let s = c.args.self.now in
    let all : length (requests_of s) ≡ length (map request_of (vec_items s.reading)) + length (closing_requests s.closing) = length-append (map request_of (vec_items s.reading)) (closing_requests s.closing) in
    let closing = ap (λ x. length (closing_requests x)) c.in-None.is in
    omega (arith, all, closing, length-map (vec_items s.reading) request_of, s.reading.ok.0, c.len-in-None.ensures, c.len-in-None.type_inv)
