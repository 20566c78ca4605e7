mod Clusters
