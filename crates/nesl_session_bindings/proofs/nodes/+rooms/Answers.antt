use Rattle.std.proofs.Common.{◌≡◌, ◌+◌, ◌<◌, Some, None, arith}
use Rattle.nesl_syntax_tree.specs.Views.{tree_of, trees_in, binders_in}
use Rattle.nesl_session_bindings.specs.Nodes.{expression_nodes, nodes_of_all, nodes_bound}
use Rattle.nesl_session_bindings.proofs.Rooms.{leaves_one, leaves_two, leaves_three, at_sequence, at_let, at_each, at_filtered, same_all, same_bound, same_exp}
use Rattle.nesl_session_bindings.proofs.nodes.+rooms.Goals as goal

pub room_left_by_node-returns-in-Sequence : goal.room_left_by_node-returns-in-Sequence
room_left_by_node-returns-in-Sequence t c =
    let e : c.args.room ≡ c.in_ok-room.room + 1 = omega (arith, c.in_ok-room.ensures) in
    at_sequence c.args.room c.room_left_by_all.result c.args.exp.now.node c.in-Sequence.items c.in-Sequence.is
    (leaves_one c.args.room c.in_ok-room.room (nodes_of_all (trees_in c.in-Sequence.items.items)) c.room_left_by_all.result e
    (same_all c.in_ok-room.room c.room_left_by_all.result c.as_slice.result.now c.in-Sequence.items.items c.as_slice.ensures.value c.room_left_by_all.ensures))

pub room_left_by_node-returns-in_err-room-in-Let : goal.room_left_by_node-returns-in_err-room-in-Let
room_left_by_node-returns-in_err-room-in-Let t c =
    let e : c.args.room ≡ c.in_ok-room.room + 1 = omega (arith, c.in_ok-room.ensures) in
    let bs = c.in-Let.bindings.items in
    let few : c.in_ok-room.room < nodes_bound (binders_in bs) =
    same_bound c.in_ok-room.room None c.as_slice-in-Let.result.now bs c.as_slice-in-Let.ensures.value c.in_err-room-in-Let.ensures in
    rw c.from_residual-in_err-room-in-Let.ensures
    (at_let c.args.room None c.args.exp.now.node c.in-Let.bindings c.in-Let.body c.in-Let.is (omega (arith, e, few)))

pub room_left_by_node-returns-in_ok-room-in-Let : goal.room_left_by_node-returns-in_ok-room-in-Let
room_left_by_node-returns-in_ok-room-in-Let t c =
    let e : c.args.room ≡ c.in_ok-room.room + 1 = omega (arith, c.in_ok-room.ensures) in
    let bs = c.in-Let.bindings.items in
    let body = c.in-Let.body.value in
    let left : c.in_ok-room-in-Let.room + nodes_bound (binders_in bs) ≡ c.in_ok-room.room =
    same_bound c.in_ok-room.room (Some c.in_ok-room-in-Let.room) c.as_slice-in-Let.result.now bs c.as_slice-in-Let.ensures.value c.in_ok-room-in-Let.ensures in
    at_let c.args.room c.room_left-in-Let.result c.args.exp.now.node c.in-Let.bindings c.in-Let.body c.in-Let.is
    (leaves_two c.args.room c.in_ok-room.room c.in_ok-room-in-Let.room (nodes_bound (binders_in bs)) (expression_nodes (tree_of body)) c.room_left-in-Let.result e left
    (same_exp c.in_ok-room-in-Let.room c.room_left-in-Let.result c.deref-in-Let.result.now body c.deref-in-Let.ensures c.room_left-in-Let.ensures))

pub room_left_by_node-returns-in_err-room-in-Each : goal.room_left_by_node-returns-in_err-room-in-Each
room_left_by_node-returns-in_err-room-in-Each t c =
    let e : c.args.room ≡ c.in_ok-room.room + 1 = omega (arith, c.in_ok-room.ensures) in
    let body = c.in-Each.body.value in
    let few : c.in_ok-room.room < expression_nodes (tree_of body) =
    same_exp c.in_ok-room.room None c.deref-in-Each.result.now body c.deref-in-Each.ensures c.in_err-room-in-Each.ensures in
    rw c.from_residual-in_err-room-in-Each.ensures
    (at_each c.args.room None c.args.exp.now.node c.in-Each.body c.in-Each.bindings c.in-Each.is (omega (arith, e, few)))

pub room_left_by_node-returns-in_ok-room-in-Each : goal.room_left_by_node-returns-in_ok-room-in-Each
room_left_by_node-returns-in_ok-room-in-Each t c =
    let e : c.args.room ≡ c.in_ok-room.room + 1 = omega (arith, c.in_ok-room.ensures) in
    let bs = c.in-Each.bindings.items in
    let body = c.in-Each.body.value in
    let left : c.in_ok-room-in-Each.room + expression_nodes (tree_of body) ≡ c.in_ok-room.room =
    same_exp c.in_ok-room.room (Some c.in_ok-room-in-Each.room) c.deref-in-Each.result.now body c.deref-in-Each.ensures c.in_ok-room-in-Each.ensures in
    at_each c.args.room c.room_left_bound-in-Each.result c.args.exp.now.node c.in-Each.body c.in-Each.bindings c.in-Each.is
    (leaves_two c.args.room c.in_ok-room.room c.in_ok-room-in-Each.room (expression_nodes (tree_of body)) (nodes_bound (binders_in bs)) c.room_left_bound-in-Each.result e left
    (same_bound c.in_ok-room-in-Each.room c.room_left_bound-in-Each.result c.as_slice-in-Each.result.now bs c.as_slice-in-Each.ensures.value c.room_left_bound-in-Each.ensures))

pub room_left_by_node-returns-in_err-room-in-FilteredEach : goal.room_left_by_node-returns-in_err-room-in-FilteredEach
room_left_by_node-returns-in_err-room-in-FilteredEach t c =
    let e : c.args.room ≡ c.in_ok-room.room + 1 = omega (arith, c.in_ok-room.ensures) in
    let body = c.in-FilteredEach.body.value in
    let few : c.in_ok-room.room < expression_nodes (tree_of body) =
    same_exp c.in_ok-room.room None c.deref-in-FilteredEach.result.now body c.deref-in-FilteredEach.ensures c.in_err-room-in-FilteredEach.ensures in
    rw c.from_residual-in_err-room-in-FilteredEach.ensures
    (at_filtered c.args.room None c.args.exp.now.node c.in-FilteredEach.body c.in-FilteredEach.bindings c.in-FilteredEach.filter c.in-FilteredEach.is (omega (arith, e, few)))

pub room_left_by_node-returns-in_err-room-in-FilteredEach-2 : goal.room_left_by_node-returns-in_err-room-in-FilteredEach-2
room_left_by_node-returns-in_err-room-in-FilteredEach-2 t c =
    let e : c.args.room ≡ c.in_ok-room.room + 1 = omega (arith, c.in_ok-room.ensures) in
    let bs = c.in-FilteredEach.bindings.items in
    let body = c.in-FilteredEach.body.value in
    let next = c.in_ok-room-in-FilteredEach.room in
    let left : next + expression_nodes (tree_of body) ≡ c.in_ok-room.room =
    same_exp c.in_ok-room.room (Some next) c.deref-in-FilteredEach.result.now body c.deref-in-FilteredEach.ensures c.in_ok-room-in-FilteredEach.ensures in
    let few : next < nodes_bound (binders_in bs) =
    same_bound next None c.as_slice-in-FilteredEach.result.now bs c.as_slice-in-FilteredEach.ensures.value c.in_err-room-in-FilteredEach-2.ensures in
    rw c.from_residual-in_err-room-in-FilteredEach-2.ensures
    (at_filtered c.args.room None c.args.exp.now.node c.in-FilteredEach.body c.in-FilteredEach.bindings c.in-FilteredEach.filter c.in-FilteredEach.is (omega (arith, e, left, few)))

pub room_left_by_node-returns-in_ok-room-in-FilteredEach-2 : goal.room_left_by_node-returns-in_ok-room-in-FilteredEach-2
room_left_by_node-returns-in_ok-room-in-FilteredEach-2 t c =
    let e : c.args.room ≡ c.in_ok-room.room + 1 = omega (arith, c.in_ok-room.ensures) in
    let bs = c.in-FilteredEach.bindings.items in
    let body = c.in-FilteredEach.body.value in
    let filter = c.in-FilteredEach.filter.value in
    let next = c.in_ok-room-in-FilteredEach.room in
    let last = c.in_ok-room-in-FilteredEach-2.room in
    let o = c.room_left-in-FilteredEach-2.result in
    let left : next + expression_nodes (tree_of body) ≡ c.in_ok-room.room =
    same_exp c.in_ok-room.room (Some next) c.deref-in-FilteredEach.result.now body c.deref-in-FilteredEach.ensures c.in_ok-room-in-FilteredEach.ensures in
    let more : last + nodes_bound (binders_in bs) ≡ next =
    same_bound next (Some last) c.as_slice-in-FilteredEach.result.now bs c.as_slice-in-FilteredEach.ensures.value c.in_ok-room-in-FilteredEach-2.ensures in
    at_filtered c.args.room o c.args.exp.now.node c.in-FilteredEach.body c.in-FilteredEach.bindings c.in-FilteredEach.filter c.in-FilteredEach.is
    (leaves_three c.args.room c.in_ok-room.room next last (expression_nodes (tree_of body)) (nodes_bound (binders_in bs)) (expression_nodes (tree_of filter)) o e left more
    (same_exp last o c.deref-in-FilteredEach-2.result.now filter c.deref-in-FilteredEach-2.ensures c.room_left-in-FilteredEach-2.ensures))
