use Rattle.std.proofs.Common.{rules, ◌≡◌, ◌∷◌, ◌++◌, ap, ◌∙◌}
use Rattle.pgs_copy.specs.Pairs.{with_pair, without}
use Rattle.pgs_scan.proofs.Tails.{all_behind, undone}
use Rattle.pgs_scan.proofs.appending.+append.Goals as goal

pub returns-in-Ok-clause-ok : goal.returns-in-Ok-clause-ok
returns-in-Ok-clause-ok t c =
    let e : c.args.pairs.now ≡ c.in-Some.first.now ∷ c.in-Some.rest.now = search rules in
    let put : c.set.new.omap ≡ with_pair c.in-Some.first.now.0 c.in-Some.first.now.1 c.args.omap.now = search rules in
    let more : c.append.new.omap ≡ c.set.new.omap ++ c.in-Some.rest.now = search rules in
    all_behind c.args.omap.now c.set.new.omap c.append.new.omap c.in-Some.rest.now c.args.pairs.now c.in-Some.first.now c.requires e put more

pub returns-in-Err-clause-err : goal.returns-in-Err-clause-err
returns-in-Err-clause-err t c =
    let e : c.args.pairs.now ≡ c.in-Some.first.now ∷ c.in-Some.rest.now = search rules in
    let put : c.set.new.omap ≡ with_pair c.in-Some.first.now.0 c.in-Some.first.now.1 c.args.omap.now = search rules in
    let kept : c.append.new.omap ≡ c.set.new.omap = search rules in
    let gone : c.remove.new.self ≡ without c.in-Some.first.now.0 c.append.new.omap = search rules in
    undone c.args.omap.now c.set.new.omap c.remove.new.self c.in-Some.rest.now c.args.pairs.now c.in-Some.first.now c.requires e put (gone ∙ ap (without c.in-Some.first.now.0) kept)
