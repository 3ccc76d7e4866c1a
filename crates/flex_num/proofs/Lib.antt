pub mod CubeRootLemmas
