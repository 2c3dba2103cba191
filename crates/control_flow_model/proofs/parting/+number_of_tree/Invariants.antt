use Rattle.control_flow_model.proofs.parting.+number_of_tree.Given as goal

-- there is one bit less to test
abbrev pub decreases-number_of_tree : goal.decreases-number_of_tree
decreases-number_of_tree l = l.count
