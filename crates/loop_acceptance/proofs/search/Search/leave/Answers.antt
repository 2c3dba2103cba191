use Rattle.std.proofs.Common.{◌∙◌, ◌<◌, Some, Vec, take, set, sym, ap, subst, arith}
use Rattle.std.specs.declared.alloc.Global.{Global}
use Rattle.std.proofs.lemmas.Option.{slice_get_within}
use Rattle.loop_acceptance.specs.declared.search.Frame.{Frame}
use Rattle.loop_acceptance.specs.declared.marks.Mark.TheVariants.{Open, Done}
use Rattle.loop_acceptance.specs.internal.Product.{nodes_of, edge_rows_of, steps_in, row_edges}
use Rattle.loop_acceptance.specs.internal.Search.{nested_left, IsNestedSearch}
use Rattle.loop_acceptance.proofs.LeavingNodes.{turn_found, left, left_less}
use Rattle.loop_acceptance.proofs.TakenSteps.{frame_read}
use Rattle.loop_acceptance.proofs.search.Search.leave.Goals as goal

pub returns-then-branch-clause-found : goal.returns-then-branch-clause-found
returns-then-branch-clause-found c = λ same.
    let none = c.requires.none in
    let f = c.index.result.now in
    let at = none.1 ∙ ap Some (frame_read c.args.self.now.frames.items c.args.top none.0 f none.1 c.index.ensures) in
    let found = c.in_ok-turns_back.ensures.found c.if-branch.true in
    turn_found (steps_in c.args.product.now) (nodes_of c.args.product.now) c.args.self.now.marks c.args.self.now.red.items
    c.args.self.now.frames.items c.requires.search c.args.top f at c.requires.last found.0 found.1 found.2

pub set-requires : goal.set-requires
set-requires c =
    let none = c.requires.none in
    let f = c.index.result.now in
    let at = none.1 ∙ ap Some (frame_read c.args.self.now.frames.items c.args.top none.0 f none.1 c.index.ensures) in
    let within = slice_get_within c.args.self.now.marks f.node Open (c.requires.search.found.opened c.args.top f at) in
    let size = c.in_ok-turns_back.ensures.on.size in
    omega (arith, within, size)

pub returns-clause-search : goal.returns-clause-search
returns-clause-search c = λ same.
    let none = c.requires.none in
    let f = c.index.result.now in
    let read = frame_read c.args.self.now.frames.items c.args.top none.0 f none.1 c.index.ensures in
    let step = steps_in c.args.product.now in
    let marks = c.turns_back.new.self.marks in
    let red = c.turns_back.new.self.red.items in
    let clear = c.in_ok-turns_back.ensures.none c.if-branch.false in
    let cut = c.truncate.ensures.items ∙ ap (λ (v : Vec Frame Global). take c.args.top v.items) c.turns_back.ensures.frames in
    rw c.set.ensures
    (subst (λ fs. IsNestedSearch step (nodes_of c.args.product.now) (set marks f.node Done) red fs) (sym cut)
    (left step (nodes_of c.args.product.now) c.args.self.now.marks c.args.self.now.red.items c.args.self.now.frames.items
    c.requires.search c.args.top f (none.1 ∙ ap Some read) c.requires.last marks red c.in_ok-turns_back.ensures.on clear.0 clear.1
    (ap (λ (x : Frame). x.left) (sym read) ∙ none.2)))

pub returns-clause-left : goal.returns-clause-left
returns-clause-left c = λ same.
    let none = c.requires.none in
    let f = c.index.result.now in
    let read = frame_read c.args.self.now.frames.items c.args.top none.0 f none.1 c.index.ensures in
    let step = steps_in c.args.product.now in
    let most = row_edges (edge_rows_of c.args.product.now) in
    let marks = c.turns_back.new.self.marks in
    let red = c.turns_back.new.self.red.items in
    let clear = c.in_ok-turns_back.ensures.none c.if-branch.false in
    let cut = c.truncate.ensures.items ∙ ap (λ (v : Vec Frame Global). take c.args.top v.items) c.turns_back.ensures.frames in
    rw c.set.ensures
    (subst (λ fs. nested_left most (set marks f.node Done) fs
    < nested_left most c.args.self.now.marks c.args.self.now.frames.items) (sym cut)
    (left_less step (nodes_of c.args.product.now) c.args.self.now.marks c.args.self.now.red.items c.args.self.now.frames.items
    c.requires.search c.args.top f (none.1 ∙ ap Some read) c.requires.last marks red c.in_ok-turns_back.ensures.on clear.0 clear.1
    (ap (λ (x : Frame). x.left) (sym read) ∙ none.2) most))
