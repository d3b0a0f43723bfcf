use Rattle.std.proofs.Common.{rules, ◌≡◌, ℕ, ◌-◌, ◌<◌, ◌≤◌, Some, true, option_map, arith}
use Rattle.std.proofs.iter.runs.Sources.{ranges}
use Rattle.rack.proofs.Inside.{highest_by_cases}
use Rattle.rack.proofs.calls.Rack.inside.Goals as goal

pub returns : goal.returns
returns g c =
    let s = g.L.Lock.meaning.stages c.args.self.now.lock in
    let p = c.find.ensures.runs.0 in
    let at : (k : ℕ) → k < p.len → option_map (λ y. y) (p.at k) ≡ Some (16 - k) = λ k less. search (rules, ranges) in
    let most : p.len ≤ 16 = search (rules, ranges) in
    let all : p.whole ≡ true → p.len ≡ 16 = search (rules, ranges) in
    highest_by_cases s 16 c.find.result c.find.ensures.runs.2
    (λ (whole, none) j less. let here = at j (omega (arith, all whole)) in search (rules, ranges))
    (λ x (k, len, last, rest). (k, omega arith, search (rules, ranges), search (rules, ranges), λ j less. search (rules, ranges)))
